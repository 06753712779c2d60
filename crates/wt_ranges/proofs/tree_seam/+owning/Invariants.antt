use Rattle.std.proofs.Common.{◌≡◌, drop}
use Rattle.std.specs.List.{list_all}
use Rattle.wt_annotated.specs.Clean.{is_page}
use Rattle.wt_annotated.proofs.TreeWalks.{held_in_all}
use Rattle.wt_ranges.proofs.tree_seam.+owning.Given as goal

-- what is left to look through decides
abbrev pub invariant-are_trees_of_page-loop-tree : goal.invariant-are_trees_of_page-loop-tree
invariant-are_trees_of_page-loop-tree l = list_all is_page (held_in_all (drop l.tree-index l.trees)) ≡ list_all is_page (held_in_all l.trees)
