-- A tree has no more groups than nodes with a number.
use Rattle.std.proofs.Common.{◌≡◌, ℕ, ◌+◌, ◌<◌, ◌≤◌, ◌^◌, Bool, true, false, List, refl, ap, ap₂, arith}
use Rattle.std.specs.Prelude.{if◌then◌else◌}
use Rattle.wt_tree.specs.declared.kind.Kind.{Kind}
use Rattle.wt_tree.specs.declared.kind.Kind.TheVariants as kind
use Rattle.wt_tree.specs.declared.row.Writing.{Writing}
use Rattle.wt_tree.specs.declared.row.Writing.TheVariants.{AsText, AsVoid, RoundCharacter, RoundChildren, AsSection, Unwritten}
use Rattle.wt_tree.specs.Kinds.{writing, is_numbered}
use Rattle.wt_tree.specs.Tiling.{is_group}
use Rattle.wt_tree.specs.Tree.{Tree, tree, Trees, none, more}
use Rattle.wt_schema.specs.Html.{groups_by, groups, groups_of_all}
use Rattle.wt_span.specs.Origins.{OuterCall}
use Rattle.wt_inline.specs.ItemTree.{ItemTree, tree_items}
use Rattle.wt_annotated.specs.Annotated.{placed, annotated}
use Rattle.wt_annotated.specs.CutTexts.{cut_texts}
use Rattle.wt_annotated.specs.GroupData.{group_data}
use Rattle.wt_annotated.specs.Grouped.{grouped}
use Rattle.wt_annotated.specs.Numbering.{next_after, count, count_all, with_numbers, all_with_numbers}
use Rattle.wt_annotated.proofs.CutNumbers.{cut_texts_few}

-- ---- groups have numbers

group_numbered : (k : Kind) → is_group k ≡ true → is_numbered k ≡ true
group_numbered kind.Group e = refl
group_numbered k e = absurd cc

groups_by_few : (g v : Bool) (w : Writing) (m n : ℕ) → (g ≡ true → v ≡ true) → m ≤ n
    → (if g then 1 else groups_by w m) ≤ (if v then 1 else 0) + (if g then 0 else n)
groups_by_few true true w m n f h = omega arith
groups_by_few true false w m n f h = absurd (let e : false ≡ true = f refl in cc)
groups_by_few false v AsText m n f h = omega arith
groups_by_few false v AsVoid m n f h = omega arith
groups_by_few false v RoundCharacter m n f h = omega arith
groups_by_few false v RoundChildren m n f h = omega (arith, h)
groups_by_few false v (AsSection s) m n f h = omega (arith, h)
groups_by_few false v Unwritten m n f h = omega arith

mutual
  pub groups_few : (t : Tree) → groups t ≤ count t
  groups_few (tree l ts) =
      groups_by_few (is_group l.kind) (is_numbered l.kind) (writing l.kind) (groups_of_all ts) (count_all ts) (group_numbered l.kind) (all_groups_few ts)

  all_groups_few : (ts : Trees) → groups_of_all ts ≤ count_all ts
  all_groups_few none = omega arith
  all_groups_few (more t ts) = omega (arith, groups_few t, all_groups_few ts)

-- ---- as many nodes have numbers when they are given

inside_count : (g : Bool) (us ts : Trees) → count_all us ≡ count_all ts → (if g then 0 else count_all (if g then ts else us)) ≡ (if g then 0 else count_all ts)
inside_count true us ts e = refl
inside_count false us ts e = e

mutual
  pub count_given : (n : ℕ) (t : Tree) → count (with_numbers n t) ≡ count t
  count_given n (tree l ts) =
      ap (λ x. (if is_numbered l.kind then 1 else 0) + x)
      (inside_count (is_group l.kind) (all_with_numbers (next_after l.kind n) ts) ts (all_count_given (next_after l.kind n) ts))

  all_count_given : (n : ℕ) (ts : Trees) → count_all (all_with_numbers n ts) ≡ count_all ts
  all_count_given n none = refl
  all_count_given n (more t ts) = ap₂ (λ x y. x + y) (count_given n t) (all_count_given (n + count t) ts)

-- ---- the annotated tree

pub few_groups : (calls : List OuterCall) (t : ItemTree) → count (placed calls (group_data calls) (tree_items t) (grouped (tree_items t) 0 t)) < 2 ^ 32
    → groups (annotated calls (group_data calls) t) < 2 ^ 64
unfolding annotated
few_groups calls t small =
    let p : Tree = placed calls (group_data calls) (tree_items t) (grouped (tree_items t) 0 t) in
    omega (arith, groups_few (with_numbers 1 (cut_texts p)), count_given 1 (cut_texts p), cut_texts_few p, small)
