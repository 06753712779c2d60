-- What marks on nodes leave as it is: how texts are cut anew, what is a block, and what sections hold.
use Rattle.std.proofs.Common.{◌≡◌, ℕ, Bool, true, false, Option, List, [], ◌∷◌, ◌++◌, length, refl, sym, ap, ap₂, ◌∙◌}
use Rattle.std.specs.Prelude.{◌||◌, ◌&&◌, if◌then◌else◌}
use Rattle.wt_tree.specs.declared.kind.Kind.{Kind}
use Rattle.wt_tree.specs.declared.kind.Kind.TheVariants as kind
use Rattle.wt_tree.specs.declared.kind.Mark.TheVariants as mark
use Rattle.wt_tree.specs.declared.kind.Ranges.{Ranges}
use Rattle.wt_tree.specs.declared.row.Texts.{Texts}
use Rattle.wt_tree.specs.declared.row.Texts.TheVariants.{Separators, Page, Bordered, OwnCharacter}
use Rattle.wt_tree.specs.Kinds.{writing, is_block, is_section}
use Rattle.wt_tree.specs.Leaves.{leaf_label, text_leaf, sep_leaf}
use Rattle.wt_tree.specs.Opened.{opened_before, all_opened_before, opened}
use Rattle.wt_tree.specs.Tiling.{is_group}
use Rattle.wt_tree.specs.Tree.{Tree, tree, Trees, none, more}
use Rattle.wt_recut.specs.Recut.{is_blank, has_break, is_as_text, shows_block, any_shows_block, is_border, is_passed, leads_to_block, front_ranges, rest_ranges, joined_ranges, text_onto, onto, joined_texts, from_start, front_of, rest_of, parts_before, text_before, cut_before, cut_from, recut}
use Rattle.wt_schema.specs.Fit.{held_as}
use Rattle.wt_page_laws.specs.EditMarks.{mark_by, tree_marked, trees_marked}

-- ---- leaves

pub text_marked : (f : ℕ → Bool) (r : Option Ranges) (own : List ℕ) → f 0 ≡ false → tree_marked f (text_leaf r own) ≡ text_leaf r own
text_marked f r own e = ap (λ (b : Bool). tree (record (leaf_label kind.Text r own own) { mark = mark_by b mark.Nothing }) none) e

pub sep_marked : (f : ℕ → Bool) (r : Option Ranges) (own : List ℕ) → f 0 ≡ false → tree_marked f (sep_leaf r own) ≡ sep_leaf r own
sep_marked f r own e = ap (λ (b : Bool). tree (record (leaf_label kind.Sep r own []) { mark = mark_by b mark.Nothing }) none) e

-- ---- what neighbours see of a node

shows_marked : (f : ℕ → Bool) (t : Tree) → shows_block (tree_marked f t) ≡ shows_block t
shows_marked f (tree l ts) = by_test (is_group l.kind)
  where
    by_test : (x : Bool) → (if x then any_shows_block (if x then ts else trees_marked f ts) else is_block l.kind) ≡ (if x then any_shows_block ts else is_block l.kind)
    by_test true = refl
    by_test false = refl

border_marked : (f : ℕ → Bool) (t : Tree) → is_border (tree_marked f t) ≡ is_border t
border_marked f (tree l ts) = ap (λ x. if is_as_text (writing l.kind) then has_break l.own else x) (shows_marked f (tree l ts))

passed_marked : (f : ℕ → Bool) (t : Tree) → is_passed (tree_marked f t) ≡ is_passed t
passed_marked f (tree l ts) = refl

leads_marked : (f : ℕ → Bool) (ts : Trees) → leads_to_block (trees_marked f ts) ≡ leads_to_block ts
leads_marked f none = refl
leads_marked f (more t ts) = ap₂ (λ x y. x || y) (shows_marked f t) (ap₂ (λ x y. x && y) (passed_marked f t) (leads_marked f ts))

-- ---- texts are joined

onto_text : (f : ℕ → Bool) (r : Option Ranges) (own : List ℕ) (ts : Trees) → f 0 ≡ false
    → trees_marked f (text_onto r own ts) ≡ text_onto r own (trees_marked f ts)
onto_text f r [] ts e = refl
onto_text f r (b ∷ bs) none e = ap (λ t. more t none) (sep_marked f r (b ∷ bs) e)
onto_text f r (b ∷ bs) (more (tree l us) ts) e = by_test (is_as_text (writing l.kind))
  where
    by_test : (x : Bool)
        → trees_marked f (if x then more (sep_leaf (joined_ranges r l.ranges) ((b ∷ bs) ++ l.own)) ts else more (sep_leaf r (b ∷ bs)) (more (tree l us) ts))
        ≡ (if x then more (sep_leaf (joined_ranges r l.ranges) ((b ∷ bs) ++ l.own)) (trees_marked f ts)
        else more (sep_leaf r (b ∷ bs)) (trees_marked f (more (tree l us) ts)))
    by_test true = ap (λ t. more t (trees_marked f ts)) (sep_marked f (joined_ranges r l.ranges) ((b ∷ bs) ++ l.own) e)
    by_test false = ap (λ t. more t (trees_marked f (more (tree l us) ts))) (sep_marked f r (b ∷ bs) e)

onto_marked : (f : ℕ → Bool) (t : Tree) (ts : Trees) → f 0 ≡ false → trees_marked f (onto t ts) ≡ onto (tree_marked f t) (trees_marked f ts)
onto_marked f (tree l us) ts e = by_test (is_as_text (writing l.kind))
  where
    by_test : (x : Bool) → trees_marked f (if x then text_onto l.ranges l.own ts else more (tree l us) ts)
        ≡ (if x then text_onto l.ranges l.own (trees_marked f ts) else more (tree_marked f (tree l us)) (trees_marked f ts))
    by_test true = onto_text f l.ranges l.own ts e
    by_test false = refl

joined_marked : (f : ℕ → Bool) (ts : Trees) → f 0 ≡ false → trees_marked f (joined_texts ts) ≡ joined_texts (trees_marked f ts)
joined_marked f none e = refl
joined_marked f (more t ts) e = onto_marked f t (joined_texts ts) e ∙ ap (onto (tree_marked f t)) (joined_marked f ts e)

-- ---- and cut

parts_marked : (f : ℕ → Bool) (r : Option Ranges) (front rest : List ℕ) (ts : Trees) → f 0 ≡ false
    → trees_marked f (parts_before r front rest ts) ≡ parts_before r front rest (trees_marked f ts)
parts_marked f r front [] ts e = ap (λ t. more t (trees_marked f ts)) (text_marked f r front e)
parts_marked f r [] (b ∷ bs) ts e = by_test (is_blank (b ∷ bs))
  where
    by_test : (x : Bool) → trees_marked f (more (if x then sep_leaf r (b ∷ bs) else text_leaf r (b ∷ bs)) ts)
        ≡ more (if x then sep_leaf r (b ∷ bs) else text_leaf r (b ∷ bs)) (trees_marked f ts)
    by_test true = ap (λ t. more t (trees_marked f ts)) (sep_marked f r (b ∷ bs) e)
    by_test false = ap (λ t. more t (trees_marked f ts)) (text_marked f r (b ∷ bs) e)
parts_marked f r (c ∷ cs) (b ∷ bs) ts e = by_test (is_blank (b ∷ bs))
  where
    n : ℕ
    n = length (c ∷ cs)

    by_test : (x : Bool)
        → trees_marked f (if x then more (text_leaf (front_ranges n r) (c ∷ cs)) (more (sep_leaf (rest_ranges n r) (b ∷ bs)) ts)
        else more (text_leaf r ((c ∷ cs) ++ (b ∷ bs))) ts)
        ≡ (if x then more (text_leaf (front_ranges n r) (c ∷ cs)) (more (sep_leaf (rest_ranges n r) (b ∷ bs)) (trees_marked f ts))
        else more (text_leaf r ((c ∷ cs) ++ (b ∷ bs))) (trees_marked f ts))
    by_test true = ap₂ (λ t u. more t (more u (trees_marked f ts))) (text_marked f (front_ranges n r) (c ∷ cs) e) (sep_marked f (rest_ranges n r) (b ∷ bs) e)
    by_test false = ap (λ t. more t (trees_marked f ts)) (text_marked f r ((c ∷ cs) ++ (b ∷ bs)) e)

cut_marked : (f : ℕ → Bool) (behind leads : Bool) (t : Tree) (ts : Trees) → f 0 ≡ false
    → trees_marked f (cut_before behind leads t ts) ≡ cut_before behind leads (tree_marked f t) (trees_marked f ts)
cut_marked f behind leads (tree l us) ts e = by_test (is_as_text (writing l.kind))
  where
    all : Bool
    all = from_start behind leads l.own

    by_test : (x : Bool) → trees_marked f (if x then text_before all l.ranges l.own ts else more (tree l us) ts)
        ≡ (if x then text_before all l.ranges l.own (trees_marked f ts) else more (tree_marked f (tree l us)) (trees_marked f ts))
    by_test true = parts_marked f l.ranges (front_of all l.own) (rest_of all l.own) ts e
    by_test false = refl

cut_from_marked : (f : ℕ → Bool) (behind : Bool) (ts : Trees) → f 0 ≡ false → trees_marked f (cut_from behind ts) ≡ cut_from behind (trees_marked f ts)
cut_from_marked f behind none e = refl
cut_from_marked f behind (more t ts) e =
    cut_marked f behind (leads_to_block ts) t (cut_from (behind || is_border t) ts) e
    ∙ ap (cut_before behind (leads_to_block ts) (tree_marked f t)) (cut_from_marked f (behind || is_border t) ts e)
    ∙ ap₂ (λ x y. cut_before behind x (tree_marked f t) (cut_from (behind || y) (trees_marked f ts))) (sym (leads_marked f ts)) (sym (border_marked f t))

recut_marked : (f : ℕ → Bool) (ts : Trees) → f 0 ≡ false → trees_marked f (recut ts) ≡ recut (trees_marked f ts)
recut_marked f ts e = cut_from_marked f false (joined_texts ts) e ∙ ap (cut_from false) (joined_marked f ts e)

pub held_marked : (f : ℕ → Bool) (x : Texts) (ts : Trees) → f 0 ≡ false → held_as x (trees_marked f ts) ≡ trees_marked f (held_as x ts)
held_marked f Separators ts e = refl
held_marked f Page ts e = refl
held_marked f Bordered ts e = sym (recut_marked f ts e)
held_marked f OwnCharacter ts e = refl

-- ---- sections

no_group : (k : Kind) → is_section k ≡ true → is_group k ≡ false
no_group (kind.Section n) e = refl
no_group k e = absurd cc

mutual
  before_marked : (f : ℕ → Bool) (t : Tree) (rest : Trees) → opened_before (tree_marked f t) (trees_marked f rest) ≡ trees_marked f (opened_before t rest)
  before_marked f (tree l ts) rest = by_section (is_section l.kind) refl (all_before_marked f ts rest)
    where
      by_section : (x : Bool) → is_section l.kind ≡ x → all_opened_before (trees_marked f ts) (trees_marked f rest) ≡ trees_marked f (all_opened_before ts rest)
          → (if x then all_opened_before (if is_group l.kind then ts else trees_marked f ts) (trees_marked f rest)
          else more (tree_marked f (tree l ts)) (trees_marked f rest))
          ≡ trees_marked f (if x then all_opened_before ts rest else more (tree l ts) rest)
      by_section true e h = ap (λ (g : Bool). all_opened_before (if g then ts else trees_marked f ts) (trees_marked f rest)) (no_group l.kind e) ∙ h
      by_section false e h = refl

  all_before_marked : (f : ℕ → Bool) (ts rest : Trees) → all_opened_before (trees_marked f ts) (trees_marked f rest) ≡ trees_marked f (all_opened_before ts rest)
  all_before_marked f none rest = refl
  all_before_marked f (more t ts) rest = ap (opened_before (tree_marked f t)) (all_before_marked f ts rest) ∙ before_marked f t (all_opened_before ts rest)

pub opened_marked : (f : ℕ → Bool) (ts : Trees) → opened (trees_marked f ts) ≡ trees_marked f (opened ts)
opened_marked f ts = all_before_marked f ts none
