use Rattle.wt_checks.specs.View.{indexed}
use Rattle.wt_places.proofs.Turning.{AreTurned}
use Rattle.wt_places.proofs.in_turn.turns.Given as goal

abbrev pub invariant-loop-node : goal.invariant-loop-node
invariant-loop-node l = AreTurned (indexed l.index) l.holder l.nodes l.node-index l.number l.left l.each.items l.out.items
