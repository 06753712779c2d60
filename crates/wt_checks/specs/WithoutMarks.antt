-- A tree with all its marks taken off.
use Rattle.std.specs.Prelude.{◌&&◌, not, Bool, true, if◌then◌else◌}
use Rattle.wt_tree.specs.declared.kind.Mark.TheVariants as marks
use Rattle.wt_tree.specs.Tiling.{is_group}
use Rattle.wt_tree.specs.Tree.{Label, Tree, tree, Trees, none, more}
use Rattle.wt_checks.specs.Groups.{has_mark}

abbrev pub mark_off : Label → Label
mark_off l = record l { mark = marks.Nothing }

abbrev mutual
  pub unmarked : Tree → Tree
  unmarked (tree l ts) = tree (mark_off l) (all_unmarked ts)

  pub all_unmarked : Trees → Trees
  all_unmarked none = none
  all_unmarked (more t ts) = more (unmarked t) (all_unmarked ts)

-- no mark is on a group or inside one
abbrev mutual
  pub groups_unmarked : Tree → Bool
  groups_unmarked (tree l ts) = if is_group l.kind then not (has_mark (tree l ts)) else all_groups_unmarked ts

  pub all_groups_unmarked : Trees → Bool
  all_groups_unmarked none = true
  all_groups_unmarked (more t ts) = groups_unmarked t && all_groups_unmarked ts
