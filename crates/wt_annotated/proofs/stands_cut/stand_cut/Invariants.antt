use Rattle.wt_annotated.proofs.StandsCut.{KnownUpTo}
use Rattle.wt_annotated.proofs.stands_cut.stand_cut.Given as goal

abbrev pub invariant-loop-at : goal.invariant-loop-at
invariant-loop-at l = KnownUpTo l.nodes l.at l.behind
