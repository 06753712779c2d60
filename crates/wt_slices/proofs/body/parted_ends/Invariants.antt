use Rattle.std.proofs.Common.{◌≡◌, ◌-◌, length, drop}
use Rattle.wt_slices.specs.BodySlices.{is_parted}
use Rattle.wt_slices.specs.Views.{parted_ends, steps_view}
use Rattle.wt_slices.proofs.body.parted_ends.Given as goal

abbrev pub invariant-loop-at : goal.invariant-loop-at
invariant-loop-at l =
    (l.ends.items ≡ parted_ends (steps_view (drop (length l.steps - l.at) l.steps)))
    × (l.parted ≡ is_parted (steps_view (drop (length l.steps - l.at) l.steps)))
