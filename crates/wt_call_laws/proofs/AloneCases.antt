-- Worked cases of nodes that an edit leaves alone: two paragraphs, of bytes 0 to 2 and 4 to 5, and a cell.
use Rattle.std.proofs.Common.{◌≡◌, ℕ, ◌+◌, Some, None, List, [], ◌∷◌, length, refl, inl, inr, arith, codes}
use Rattle.wt_tree.specs.declared.kind.Kind.{Kind}
use Rattle.wt_tree.specs.declared.kind.Kind.TheVariants as kind
use Rattle.wt_tree.specs.declared.kind.Mark.TheVariants as marks
use Rattle.wt_tree.specs.Tree.{Label, Tree, tree, none, trees}
use Rattle.wt_checks.specs.Alike.{same_data, same_kind}
use Rattle.wt_places.specs.declared.slot.Slot.{Slot}
use Rattle.wt_places.specs.Places.{gap_end, places, slot}
use Rattle.wt_call_laws.specs.Untouched.{IsBeside, IsNumberedBehind, IsUntouched}

abbrev label_at : Kind → ℕ → ℕ → ℕ → ℕ → Label
label_at k id start end open_w = record {
  kind = k;
  id = id;
  ranges = Some (record { start = start; end = end; open_w = open_w; close_w = 0 });
  opening = [];
  closing = [];
  own = [];
  shown = [];
  attrs = [];
  mark = marks.Nothing;
  mw = None;
  origin = None;
}

abbrev node : Kind → ℕ → ℕ → ℕ → ℕ → List Tree → Tree
node k id start end open_w ts = tree (label_at k id start end open_w) (trees ts)

abbrev words : ℕ → List ℕ → Tree
words start bs = tree (record (label_at kind.Text 0 start (start + length bs) 0) { own = bs; shown = bs }) none

abbrev para : ℕ → ℕ → ℕ → List ℕ → Tree
para id start end bs = node kind.Para id start end 0 (words start bs ∷ [])

abbrev first : Tree
first = para 1 0 2 (codes "aa")

abbrev second : Tree
second = para 2 4 5 (codes "b")

abbrev page : Tree
page = node kind.Body 0 0 5 0 (first ∷ second ∷ [])

abbrev edited : List Tree → List Slot
edited us = places page (node kind.Body 0 0 0 0 us)

-- a word was typed in the first: the second is left alone
other_typed : edited (para 1 0 0 (codes "ax") ∷ second ∷ []) ≡ slot 0 2 ∷ []
unfolding same_kind same_data
other_typed = refl

second_alone : IsUntouched (slot 0 2 ∷ []) second
second_alone = (inl (omega arith), tt)

-- one that came between them leaves both alone
one_came : edited (first ∷ para 0 0 0 (codes "n") ∷ second ∷ []) ≡ slot 2 4 ∷ []
unfolding same_kind same_data
one_came = refl

first_beside : IsUntouched (slot 2 4 ∷ []) first
first_beside = (inr (omega arith), tt)

second_beside : IsUntouched (slot 2 4 ∷ []) second
second_beside = (inl (omega arith), tt)

-- one place over the whole page doesn't, and no place in its midst does, even without a byte
whole_page : IsUntouched (slot 0 5 ∷ []) second → ⊥
whole_page h = by h.0
  where
    by : IsBeside 4 5 (slot 0 5) → ⊥
    by (inl e) = omega (arith, e)
    by (inr e) = omega (arith, e)

in_its_midst : IsUntouched (slot 1 1 ∷ []) first → ⊥
in_its_midst h = by h.0
  where
    by : IsBeside 0 2 (slot 1 1) → ⊥
    by (inl e) = omega (arith, e)
    by (inr e) = omega (arith, e)

-- the place before a cell may have its sign, `!!`
cell_sign : gap_end (node kind.Th 5 5 10 2 (words 8 (codes "b") ∷ [])) ≡ 7
cell_sign = refl

-- a paragraph with bold text, and an item with a list in it, have no text after their inside
bold_text : IsNumberedBehind (node kind.Para 1 0 8 0 (words 0 (codes "a") ∷ node kind.Bold 2 1 8 3 (words 4 (codes "b") ∷ []) ∷ []))
bold_text = (tt, (tt, (tt, tt)))

abbrev break_at : ℕ → Tree
break_at start = tree (record (label_at kind.Sep 0 start (start + 1) 0) { own = 10 ∷ [] }) none

abbrev sublist : Tree
sublist = node kind.Ul 3 4 8 0 (node kind.Li 4 4 8 3 (words 7 (codes "b") ∷ []) ∷ [])

-- of what comes after the inside of this item only the list shows something, and it has a number
list_inside : IsNumberedBehind (node kind.Li 2 0 8 2 (words 2 (codes "a") ∷ break_at 3 ∷ sublist ∷ []))
list_inside = ((λ e. absurd (cc), (λ e. λ z. absurd (cc), tt)), (tt, (tt, (((λ e. λ z. absurd (cc), tt), (((tt), (tt, tt)), tt)), tt))))

-- a text after the list is one
text_behind : IsNumberedBehind (node kind.Li 2 0 9 2 (words 2 (codes "a") ∷ sublist ∷ words 8 (codes "c") ∷ [])) → ⊥
text_behind h = h.0.1.0 refl refl
