-- What stands inside new elements is among all nodes.
use Rattle.std.proofs.Common.{ℕ, Bool, true, false, List}
use Rattle.std.specs.Prelude.{◌==◌, ◌||◌, not, if◌then◌else◌}
use Rattle.std.specs.List.{AllByRecursion}
use Rattle.wt_tree.specs.Tree.{Tree, tree, Trees, none, more}
use Rattle.wt_checks.specs.Places.{Place, placed, all_placed, is_body, is_content, parent_below}
use Rattle.wt_checks.specs.PutBack.{in_new, all_in_new}
use Rattle.wt_checks.proofs.Lookups.{each_split, each_join}

either_list : (P : Place → Type 0) (b : Bool) (xs ys : List Place) → AllByRecursion P xs → AllByRecursion P ys → AllByRecursion P (if b then xs else ys)
either_list P true xs ys h k = h
either_list P false xs ys h k = k

mutual
  pub held_in_new : (P : Place → Type 0) (parent : ℕ) (within : Bool) (t : Tree) → AllByRecursion P (placed parent within t)
      → AllByRecursion P (in_new parent within t)
  held_in_new P parent within (tree l ts) h =
      either_list P (not (l.id == 0) || is_body l.kind) (all_in_new (parent_below parent l.id) (within || is_content l.mark) ts)
      (all_placed (parent_below parent l.id) (within || is_content l.mark) ts)
      (all_held_in_new P (parent_below parent l.id) (within || is_content l.mark) ts h.1) h.1

  all_held_in_new : (P : Place → Type 0) (parent : ℕ) (within : Bool) (ts : Trees) → AllByRecursion P (all_placed parent within ts)
      → AllByRecursion P (all_in_new parent within ts)
  all_held_in_new P parent within none h = tt
  all_held_in_new P parent within (more t ts) h =
      let s = each_split P (placed parent within t) (all_placed parent within ts) h in
      each_join P (in_new parent within t) (all_in_new parent within ts) (held_in_new P parent within t s.0) (all_held_in_new P parent within ts s.1)
