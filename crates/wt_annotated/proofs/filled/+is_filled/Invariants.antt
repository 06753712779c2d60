use Rattle.std.proofs.Common.{◌≡◌, drop}
use Rattle.wt_annotated.proofs.PlainTrees.{filled_in_all}
use Rattle.wt_annotated.proofs.filled.+is_filled.Given as goal

-- what is left to look through decides
abbrev pub invariant-loop-child : goal.invariant-loop-child
invariant-loop-child l = filled_in_all (drop l.child-index l.child-items) ≡ filled_in_all l.child-items
