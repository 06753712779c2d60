use Rattle.wt_places.proofs.Rewriting.{HasTested}
use Rattle.wt_places.proofs.testing.are_within.Given as goal

abbrev pub invariant-loop-change : goal.invariant-loop-change
invariant-loop-change l = HasTested l.places l.changes l.at l.change-index l.size
