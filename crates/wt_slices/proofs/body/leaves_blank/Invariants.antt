use Rattle.std.proofs.Common.{◌≡◌, drop}
use Rattle.wt_slices.specs.BodySlices.{leaves_blank}
use Rattle.wt_slices.specs.Views.{steps_view}
use Rattle.wt_slices.proofs.body.leaves_blank.Given as goal

abbrev pub invariant-loop-at : goal.invariant-loop-at
invariant-loop-at l = leaves_blank l.fn.first (steps_view (drop l.from l.steps)) ≡ leaves_blank l.front (steps_view (drop l.at l.steps))
