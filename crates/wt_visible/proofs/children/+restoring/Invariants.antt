use Rattle.wt_checks.specs.View.{indexed}
use Rattle.wt_visible.proofs.RestoredShown.{LeftBy}
use Rattle.wt_visible.proofs.children.+restoring.Given as goal

abbrev pub invariant-push_all_restored-loop-node : goal.invariant-push_all_restored-loop-node
invariant-push_all_restored-loop-node l = LeftBy (indexed l.page) l.initial.shown l.shown l.nodes l.node-index
