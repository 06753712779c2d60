use Rattle.std.proofs.Common.{◌≡◌, length}
use Rattle.wt_difference.proofs.InStep.{IsSameFrom}
use Rattle.wt_difference.proofs.tokens.+in_step.Given as goal

abbrev pub invariant-all_same_in_step-loop-at : goal.invariant-all_same_in_step-loop-at
invariant-all_same_in_step-loop-at l = record { long : length l.old ≡ length l.new; same : IsSameFrom l.old l.new l.at }
