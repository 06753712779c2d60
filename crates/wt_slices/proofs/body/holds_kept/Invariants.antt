use Rattle.std.proofs.Common.{◌≡◌, drop}
use Rattle.wt_slices.specs.BodySlices.{holds_kept}
use Rattle.wt_slices.specs.Views.{steps_view}
use Rattle.wt_slices.proofs.body.holds_kept.Given as goal

-- what is left to look through decides
abbrev pub invariant-loop-step : goal.invariant-loop-step
invariant-loop-step l = holds_kept (steps_view l.steps) ≡ holds_kept (steps_view (drop l.step-index l.steps))
