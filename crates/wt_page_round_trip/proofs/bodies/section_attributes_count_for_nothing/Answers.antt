use Rattle.wt_page_round_trip.proofs.SameBodies.{fit_same}
use Rattle.wt_page_round_trip.proofs.bodies.section_attributes_count_for_nothing.Goals as goal

pub returns : goal.returns
returns c = fit_same
