use Rattle.wt_difference.proofs.InsideEnd.{PassedTo}
use Rattle.wt_difference.proofs.insides.inside_len.Given as goal

abbrev pub invariant-loop-at : goal.invariant-loop-at
invariant-loop-at l = PassedTo l.nodes l.at
