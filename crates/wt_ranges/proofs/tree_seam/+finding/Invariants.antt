use Rattle.std.proofs.Common.{◌≡◌, drop}
use Rattle.wt_annotated.specs.Seams.{first_found}
use Rattle.wt_annotated.proofs.TreeWalks.{held_in_all}
use Rattle.wt_ranges.proofs.tree_seam.+finding.Given as goal

-- what is left to look through decides
abbrev pub invariant-first_found_in_all-loop-tree : goal.invariant-first_found_in_all-loop-tree
invariant-first_found_in_all-loop-tree l = first_found (held_in_all (drop l.tree-index l.trees)) ≡ first_found (held_in_all l.trees)
