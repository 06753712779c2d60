-- Places and then numbers, given in one pass.
use Rattle.std.proofs.Common.{◌≡◌, ℕ, ◌+◌, Bool, true, false, List, [], ◌++◌, refl, ap, ap₂, ◌∙◌}
use Rattle.std.specs.Prelude.{if◌then◌else◌}
use Rattle.wt_tree.specs.Kinds.{is_leaf, is_numbered}
use Rattle.wt_tree.specs.Tree.{tree, Trees, more}
use Rattle.wt_tree.specs.Tiling.{is_group}
use Rattle.wt_span.specs.Items.{Item}
use Rattle.wt_inline.specs.ItemTree.{ItemTree, inner, ItemTrees, nothing, further, tree_items, held_by_all}
use Rattle.wt_annotated.specs.Labels.{width, label_at}
use Rattle.wt_annotated.specs.Numbering.{number_of, next_after, count, count_all, with_numbers, all_with_numbers}
use Rattle.wt_annotated.specs.Counted.{count_by, numbered, numbered_in_all}
use Rattle.wt_annotated.specs.WithoutCalls.{inside_by, placed, all_placed, annotated}
use Rattle.wt_annotated.specs.Made.{annotated_at, all_annotated_at}
use Rattle.wt_annotated.proofs.Tiles.{group_leaf}
use Rattle.wt_annotated.proofs.Widths.{width_append}

-- ---- as many nodes as are counted

inside_count : (g is : Bool) (us : Trees) (m : ℕ) → (g ≡ true → is ≡ true) → count_all us ≡ m → (if g then 0 else count_all (inside_by is us)) ≡ count_by is m
inside_count true true us m h e = refl
inside_count true false us m h e = absurd (let x : false ≡ true = h refl in cc)
inside_count false true us m h e = refl
inside_count false false us m h e = e

mutual
  unfolding label_at

  pub count_placed : (before : List Item) (t : ItemTree) → count (placed before t) ≡ numbered t
  count_placed before (inner h opening ts closing) =
      ap (λ n. (if is_numbered h.kind then 1 else 0) + n)
      (inside_count (is_group h.kind) (is_leaf h.kind) (all_placed (before ++ opening) ts) (numbered_in_all ts)
      (group_leaf h.kind) (count_all_placed (before ++ opening) ts))

  pub count_all_placed : (before : List Item) (ts : ItemTrees) → count_all (all_placed before ts) ≡ numbered_in_all ts
  count_all_placed before nothing = refl
  count_all_placed before (further t ts) = ap₂ (λ m n. m + n) (count_placed before t) (count_all_placed (before ++ tree_items t) ts)

-- ---- the same tree

inside_same : (g is : Bool) (next : ℕ) (us vs : Trees) → (g ≡ true → is ≡ true) → all_with_numbers next us ≡ vs
    → (if g then inside_by is us else all_with_numbers next (inside_by is us)) ≡ inside_by is vs
inside_same true true next us vs h e = refl
inside_same true false next us vs h e = absurd (let x : false ≡ true = h refl in cc)
inside_same false true next us vs h e = refl
inside_same false false next us vs h e = e

mutual
  unfolding label_at

  pub numbers_placed : (before : List Item) (next : ℕ) (t : ItemTree) → with_numbers next (placed before t) ≡ annotated_at (width before) next t
  numbers_placed before next (inner h opening ts closing) =
      ap (tree (label_at (width before) (number_of h.kind next) (is_leaf h.kind) h opening (opening ++ (held_by_all ts ++ closing)) closing))
      (inside_same (is_group h.kind) (is_leaf h.kind) (next_after h.kind next) (all_placed (before ++ opening) ts)
      (all_annotated_at (width before + width opening) (next_after h.kind next) ts) (group_leaf h.kind)
      (all_numbers_placed (before ++ opening) (next_after h.kind next) ts
      ∙ ap (λ at. all_annotated_at at (next_after h.kind next) ts) (width_append before opening)))

  pub all_numbers_placed : (before : List Item) (next : ℕ) (ts : ItemTrees) → all_with_numbers next (all_placed before ts)
      ≡ all_annotated_at (width before) next ts
  all_numbers_placed before next nothing = refl
  all_numbers_placed before next (further t ts) =
      ap₂ more (numbers_placed before next t)
      (ap (λ n. all_with_numbers (next + n) (all_placed (before ++ tree_items t) ts)) (count_placed before t)
      ∙ all_numbers_placed (before ++ tree_items t) (next + numbered t) ts
      ∙ ap (λ at. all_annotated_at at (next + numbered t) ts) (width_append before (tree_items t)))

pub annotated_is : (t : ItemTree) → annotated t ≡ annotated_at 0 1 t
unfolding annotated
annotated_is t = numbers_placed [] 1 t
