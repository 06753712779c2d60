use Rattle.wt_places.proofs.Passing.{PassedTo}
use Rattle.wt_places.proofs.slots.place_of.Given as goal

abbrev pub invariant-loop-at : goal.invariant-loop-at
invariant-loop-at l = PassedTo l.number l.nodes l.at
