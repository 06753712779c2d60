use Rattle.wt_slices.proofs.StepWalk.{NoneBefore}
use Rattle.wt_slices.proofs.steps.place_of.Given as goal

abbrev pub invariant-loop-at : goal.invariant-loop-at
invariant-loop-at l = NoneBefore l.number l.nodes l.at
