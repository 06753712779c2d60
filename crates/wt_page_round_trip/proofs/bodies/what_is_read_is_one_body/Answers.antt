use Rattle.wt_page_round_trip.proofs.OneBody.{read_is_one_body}
use Rattle.wt_page_round_trip.proofs.bodies.what_is_read_is_one_body.Goals as goal

pub returns : goal.returns
returns c = read_is_one_body
