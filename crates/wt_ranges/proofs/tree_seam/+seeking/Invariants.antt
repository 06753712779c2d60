use Rattle.std.proofs.Common.{◌≡◌, drop}
use Rattle.std.specs.List.{list_any}
use Rattle.wt_annotated.specs.Clean.{is_page}
use Rattle.wt_annotated.proofs.TreeWalks.{held_in_all}
use Rattle.wt_ranges.proofs.tree_seam.+seeking.Given as goal

-- what is left to look through decides
abbrev pub invariant-any_holds_page_item-loop-tree : goal.invariant-any_holds_page_item-loop-tree
invariant-any_holds_page_item-loop-tree l = list_any is_page (held_in_all (drop l.tree-index l.trees)) ≡ list_any is_page (held_in_all l.trees)
