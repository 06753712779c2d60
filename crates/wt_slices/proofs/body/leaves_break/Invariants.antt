use Rattle.std.proofs.Common.{◌≡◌, drop}
use Rattle.wt_slices.specs.BodySlices.{leaves_break}
use Rattle.wt_slices.specs.Views.{steps_view}
use Rattle.wt_slices.proofs.body.leaves_break.Given as goal

abbrev pub invariant-loop-step : goal.invariant-loop-step
invariant-loop-step l = leaves_break (steps_view l.steps) ≡ leaves_break (steps_view (drop l.step-index l.steps))
