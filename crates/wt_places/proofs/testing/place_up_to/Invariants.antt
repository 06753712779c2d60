use Rattle.std.proofs.Common.{◌-◌, length}
use Rattle.wt_places.proofs.testing.place_up_to.Given as goal

abbrev pub decreases-loop-at : goal.decreases-loop-at
decreases-loop-at l = length l.places - l.at
