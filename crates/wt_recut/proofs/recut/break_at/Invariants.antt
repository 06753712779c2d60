use Rattle.wt_recut.specs.Recutting.{NoBreakBefore}
use Rattle.wt_recut.proofs.recut.break_at.Given as goal

abbrev pub invariant-loop-at : goal.invariant-loop-at
invariant-loop-at l = NoBreakBefore l.bytes l.at
