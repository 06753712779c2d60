-- Before the paragraph: no number and no place changes.
use Rattle.std.proofs.Common.{arith, true≢false, ◌≡◌, ℕ, ◌+◌, ◌-◌, ◌<◌, ◌≤◌, ◌==◌, nat_lt, Bool, true, false, Option, Some, None, List, [], ◌∷◌, ◌++◌, length, refl, sym, ap, ap₂, cond}
use Rattle.std.specs.Prelude.{◌||◌, if◌then◌else◌}
use Rattle.std.proofs.lemmas.Bool.Decides.{nat_tests}
use Rattle.wt_tree.specs.declared.kind.Ranges.{Ranges}
use Rattle.wt_tree.specs.declared.row.Texts.{Texts}
use Rattle.wt_tree.specs.declared.row.Texts.TheVariants.{Separators, Page, Bordered, OwnCharacter}
use Rattle.wt_tree.specs.Kinds.{is_leaf, is_numbered, texts_of_kind}
use Rattle.wt_tree.specs.Leaves.{text_leaf, sep_leaf}
use Rattle.wt_recut.specs.Recut.{is_blank, is_text, is_border, leads_to_block, front_ranges, rest_ranges, joined_ranges, text_onto, joined_texts, from_start, front_of, rest_of, parts_before, text_before, cut_from}
use Rattle.wt_tree.specs.Tiling.{is_group}
use Rattle.wt_tree.specs.Tree.{Tree, tree, Trees, none, more}
use Rattle.wt_span.specs.Items.{Item}
use Rattle.wt_inline.specs.ItemTree.{ItemTree, inner, ItemTrees, nothing, further, tree_items, held_by_all}
use Rattle.wt_annotated.specs.CutTexts.{cut_as, cut_texts, all_cut_texts}
use Rattle.wt_annotated.specs.Labels.{width, label_at}
use Rattle.wt_annotated.specs.Numbering.{next_after, count, count_all, with_numbers, all_with_numbers}
use Rattle.wt_annotated.specs.WithoutCalls.{inside_by, placed, all_placed}
use Rattle.wt_annotated.proofs.Tiles.{group_leaf}
use Rattle.wt_annotated.proofs.Widths.{width_append, width_three}
use Rattle.wt_inside_laws.specs.Replaced.{Edit, moved, renumbered, moved_range, with_inside, all_with_inside}
use Rattle.wt_part_laws.specs.Standing.{standing}
use Rattle.wt_inside_laws.proofs.Behind.{test_no_less, test_not_up, test_below}

-- ---- all numbers below this one, and no place behind this one

abbrev pub EndsBy : ℕ → Option Ranges → Type 0
EndsBy b None = Unit {0}
EndsBy b (Some r) = (r.start ≤ b) × (r.end ≤ b)

abbrev mutual
  pub Below : ℕ → ℕ → Tree → Type 0
  Below n b (tree l ts) = (l.id < n) × EndsBy b l.ranges × AllBelow n b ts

  pub AllBelow : ℕ → ℕ → Trees → Type 0
  AllBelow n b none = Unit {0}
  AllBelow n b (more t ts) = Below n b t × AllBelow n b ts

pub either : (n b : ℕ) (v : Bool) (us vs : Trees) → AllBelow n b us → AllBelow n b vs → AllBelow n b (cond v us vs)
either n b true us vs h k = h
either n b false us vs h k = k

-- ---- numbers and places

number_below : (v : Bool) (n m : ℕ) → 1 ≤ n → m + cond v 1 0 ≤ n → cond v m 0 < n
number_below true n m h k = omega (arith, k)
number_below false n m h k = omega (arith, h)

next_is : (v : Bool) (m : ℕ) → cond v (m + 1) m ≡ m + cond v 1 0
next_is true m = refl
next_is false m = omega arith

inside_below : (n b m k : ℕ) (g leaf : Bool) (us : Trees) → (g ≡ true → leaf ≡ true) → k + cond g 0 (count_all (inside_by leaf us)) ≤ n
    → (k + count_all us ≤ n → AllBelow n b (all_with_numbers m us)) → AllBelow n b (cond g (inside_by leaf us) (all_with_numbers m (inside_by leaf us)))
inside_below n b m k true true us h le f = tt
inside_below n b m k true false us h le f = absurd (true≢false (sym (h refl)))
inside_below n b m k false true us h le f = tt
inside_below n b m k false false us h le f = f le

mutual
  unfolding label_at

  placed_below : (n b m : ℕ) (before : List Item) (t : ItemTree) → 1 ≤ n → m + count (placed before t) ≤ n → width before + width (tree_items t) ≤ b
      → Below n b (with_numbers m (placed before t))
  placed_below n b m before (inner h o ts c) first le fits =
      let v : Bool = is_numbered h.kind in
      let us : Trees = all_placed (before ++ o) ts in
      let inside : ℕ = cond (is_group h.kind) 0 (count_all (inside_by (is_leaf h.kind) us)) in
      let w = width_append before o in
      let three = width_three o (held_by_all ts) c in
      let at : width before ≤ b = omega (arith, fits) in
      let own : m + cond v 1 0 ≤ n = omega (arith, le) in
      let rest : m + cond v 1 0 + inside ≤ n = omega (arith, le) in (
        number_below v n m first own,
        (at, fits),
        inside_below n b (next_after h.kind m) (m + cond v 1 0) (is_group h.kind) (is_leaf h.kind) us (group_leaf h.kind) rest
            (λ all. all_placed_below n b (next_after h.kind m) (before ++ o) ts first (omega (arith, all, next_is v m)) (omega (arith, fits, w, three))),
      )

  pub all_placed_below : (n b m : ℕ) (before : List Item) (ts : ItemTrees) → 1 ≤ n → m + count_all (all_placed before ts) ≤ n
      → width before + width (held_by_all ts) ≤ b → AllBelow n b (all_with_numbers m (all_placed before ts))
  all_placed_below n b m before nothing first le fits = tt
  all_placed_below n b m before (further t ts) first le fits =
      let w = width_append before (tree_items t) in
      let u = width_append (tree_items t) (held_by_all ts) in (
        placed_below n b m before t first (omega (arith, le)) (omega (arith, fits, u)),
        all_placed_below n b (m + count (placed before t)) (before ++ tree_items t) ts first (omega (arith, le)) (omega (arith, fits, w, u)),
      )

-- ---- joining and cutting

joined_ends : (b : ℕ) (r s : Option Ranges) → EndsBy b r → EndsBy b s → EndsBy b (joined_ranges r s)
joined_ends b None s h k = tt
joined_ends b (Some r) None h k = tt
joined_ends b (Some r) (Some s) h k = (h.0, k.1)

place_up : (v : Bool) (b n : ℕ) (r : Ranges) → nat_lt n (r.end - r.start) ≡ v → r.end ≤ b → cond v (r.start + n) r.end ≤ b
place_up true b n r e h = let l : n < r.end - r.start = grind (arith, nat_tests) in omega (arith, l, h)
place_up false b n r e h = h

front_ends : (b n : ℕ) (r : Option Ranges) → EndsBy b r → EndsBy b (front_ranges n r)
front_ends b n None h = tt
front_ends b n (Some r) h = (h.0, place_up (nat_lt n (r.end - r.start)) b n r refl h.1)

rest_ends : (b n : ℕ) (r : Option Ranges) → EndsBy b r → EndsBy b (rest_ranges n r)
rest_ends b n None h = tt
rest_ends b n (Some r) h = (place_up (nat_lt n (r.end - r.start)) b n r refl h.1, h.1)

text_onto_below : (n b : ℕ) (r : Option Ranges) (own : List ℕ) (ts : Trees) → 0 < n → EndsBy b r → AllBelow n b ts → AllBelow n b (text_onto r own ts)
text_onto_below n b r [] ts p q h = h
text_onto_below n b r (c ∷ cs) none p q h = ((p, q, tt), tt)
text_onto_below n b r (c ∷ cs) (more (tree l us) ts) p q h =
    either n b (is_text (tree l us)) (more (sep_leaf (joined_ranges r l.ranges) ((c ∷ cs) ++ l.own)) ts) (more (sep_leaf r (c ∷ cs)) (more (tree l us) ts))
    ((p, joined_ends b r l.ranges q h.0.1, tt), h.1) ((p, q, tt), h)

pub joined_below : (n b : ℕ) (ts : Trees) → 0 < n → AllBelow n b ts → AllBelow n b (joined_texts ts)
joined_below n b none p h = tt
joined_below n b (more (tree l vs) ts) p h =
    let us : Trees = joined_texts ts in
    let k : AllBelow n b us = joined_below n b ts p h.1 in
    either n b (is_text (tree l vs)) (text_onto l.ranges l.own us) (more (tree l vs) us) (text_onto_below n b l.ranges l.own us p h.0.1 k) (h.0, k)

one_leaf : (n b : ℕ) (v : Bool) (r : Option Ranges) (bs : List ℕ) → 0 < n → EndsBy b r → Below n b (if v then sep_leaf r bs else text_leaf r bs)
one_leaf n b true r bs p q = (p, q, tt)
one_leaf n b false r bs p q = (p, q, tt)

pub parts_below : (n b : ℕ) (r : Option Ranges) (front rest : List ℕ) (ts : Trees) → 0 < n → EndsBy b r → AllBelow n b ts → AllBelow n b (parts_before r front rest ts)
parts_below n b r front [] ts p q h = ((p, q, tt), h)
parts_below n b r [] (c ∷ cs) ts p q h = (one_leaf n b (is_blank (c ∷ cs)) r (c ∷ cs) p q, h)
parts_below n b r (d ∷ ds) (c ∷ cs) ts p q h =
    either n b (is_blank (c ∷ cs))
    (more (text_leaf (front_ranges (length (d ∷ ds)) r) (d ∷ ds)) (more (sep_leaf (rest_ranges (length (d ∷ ds)) r) (c ∷ cs)) ts))
    (more (text_leaf r ((d ∷ ds) ++ (c ∷ cs))) ts)
    ((p, front_ends b (length (d ∷ ds)) r q, tt), ((p, rest_ends b (length (d ∷ ds)) r q, tt), h)) ((p, q, tt), h)

cut_below : (n b : ℕ) (behind : Bool) (ts : Trees) → 0 < n → AllBelow n b ts → AllBelow n b (cut_from behind ts)
cut_below n b behind none p h = tt
cut_below n b behind (more (tree l vs) ts) p h =
    let t : Tree = tree l vs in
    let us : Trees = cut_from (behind || is_border t) ts in
    let k : AllBelow n b us = cut_below n b (behind || is_border t) ts p h.1 in
    let all : Bool = from_start behind (leads_to_block ts) l.own in
    either n b (is_text t) (text_before all l.ranges l.own us) (more t us)
    (parts_below n b l.ranges (front_of all l.own) (rest_of all l.own) us p h.0.1 k) (h.0, k)

as_below : (n b : ℕ) (x : Texts) (us : Trees) → 0 < n → AllBelow n b us → AllBelow n b (cut_as x us)
as_below n b Separators us p h = h
as_below n b Page us p h = h
as_below n b Bordered us p h = cut_below n b false (joined_texts us) p (joined_below n b us p h)
as_below n b OwnCharacter us p h = h

mutual
  texts_below : (n b : ℕ) (t : Tree) → 0 < n → Below n b t → Below n b (cut_texts t)
  texts_below n b (tree l ts) p h = (
    h.0,
    h.1,
    either n b (is_group l.kind) ts (cut_as (texts_of_kind l.kind) (all_cut_texts ts)) h.2
        (as_below n b (texts_of_kind l.kind) (all_cut_texts ts) p (all_texts_below n b ts p h.2)),
  )

  pub all_texts_below : (n b : ℕ) (ts : Trees) → 0 < n → AllBelow n b ts → AllBelow n b (all_cut_texts ts)
  all_texts_below n b none p h = tt
  all_texts_below n b (more t ts) p h = (texts_below n b t p h.0, all_texts_below n b ts p h.1)

-- ---- nothing changes

moved_not : (e : Edit) (b at : ℕ) → b < e.old_end → at ≤ b → moved e at ≡ at
moved_not e b at h k = ap (λ (v : Bool). cond v (e.new_end + (at - e.old_end)) at) (test_not_up e.old_end at (omega (arith, h, k)))

range_not : (e : Edit) (b : ℕ) (r : Option Ranges) → b < e.old_end → EndsBy b r → moved_range e r ≡ r
range_not e b None h k = refl
range_not e b (Some r) h k =
    ap₂ (λ (x y : ℕ). Some (record { start = x; end = y; open_w = r.open_w; close_w = r.close_w })) (moved_not e b r.start h k.0) (moved_not e b r.end h k.1)

number_not : (e : Edit) (i : ℕ) → e.number ≤ e.old_last → i < e.number → renumbered e i ≡ i
number_not e i h k = ap (λ (w : Bool). cond w (e.new_last + (i - e.old_last)) i) (test_no_less e.old_last i (omega (arith, h, k)))

inside_not : (here g : Bool) (is ts us : Trees) → here ≡ false → us ≡ ts → cond here is (cond g ts us) ≡ ts
inside_not true g is ts us h f = absurd (true≢false h)
inside_not false true is ts us h f = refl
inside_not false false is ts us h f = f

mutual
  pub stays : (e : Edit) (b : ℕ) (t : Tree) → e.number ≤ e.old_last → b < e.old_end → Below e.number b t → with_inside e t ≡ t
  stays e b (tree l ts) o p h =
      ap₂ tree
      (ap₂ (λ (i : ℕ) (r : Option Ranges). record l { id = i; ranges = r }) (number_not e l.id o h.0) (range_not e b l.ranges p h.1))
      (inside_not (l.id == e.number) (is_group l.kind) e.inside ts (all_with_inside e ts) (test_below l.id e.number h.0) (all_stay e b ts o p h.2))

  pub all_stay : (e : Edit) (b : ℕ) (ts : Trees) → e.number ≤ e.old_last → b < e.old_end → AllBelow e.number b ts → all_with_inside e ts ≡ ts
  all_stay e b none o p h = refl
  all_stay e b (more t ts) o p h = ap₂ more (stays e b t o p h.0) (all_stay e b ts o p h.1)

pub standing_stays : (e : Edit) (n : ℕ) (before : List Item) (t : ItemTree) → 1 ≤ e.number → e.number ≤ e.old_last
    → n + count (placed before t) ≤ e.number → width before + width (tree_items t) < e.old_end → with_inside e (standing n before t) ≡ standing n before t
standing_stays e n before t first own number place =
    let b : ℕ = width before + width (tree_items t) in
    stays e b (standing n before t) own place
    (texts_below e.number b (with_numbers n (placed before t)) first (placed_below e.number b n before t first number (omega arith)))
