use Rattle.wt_checks.specs.View.{indexed}
use Rattle.wt_places.proofs.Turning.{AreCounted}
use Rattle.wt_places.proofs.in_turn.rises.Given as goal

abbrev pub invariant-loop-at : goal.invariant-loop-at
invariant-loop-at l = AreCounted (indexed l.index) l.holder l.nodes l.at l.piles.items l.each.items

abbrev pub decreases-loop-at : goal.decreases-loop-at
decreases-loop-at l = l.at
