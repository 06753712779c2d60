use Rattle.wt_page_round_trip.proofs.OpenedBodies.{opened_fits}
use Rattle.wt_page_round_trip.proofs.bodies.sections_may_be_taken_out.Goals as goal

pub returns : goal.returns
returns c = opened_fits
