use Rattle.wt_page_round_trip.proofs.JoinedBodies.{joined_fits}
use Rattle.wt_page_round_trip.proofs.bodies.texts_side_by_side_are_one.Goals as goal

pub returns : goal.returns
returns c = joined_fits
