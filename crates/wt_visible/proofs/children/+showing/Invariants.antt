use Rattle.wt_visible.proofs.ShownChildren.{Left}
use Rattle.wt_visible.proofs.children.+showing.Given as goal

abbrev pub invariant-push_all_shown-loop-node : goal.invariant-push_all_shown-loop-node
invariant-push_all_shown-loop-node l = Left l.initial.shown l.shown l.nodes l.node-index
