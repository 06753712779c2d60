use Rattle.wt_page_round_trip.proofs.LabelledGroups.{groups_labelled}
use Rattle.wt_page_round_trip.proofs.laws.groups_are_labelled.Goals as goal

pub returns : goal.returns
returns c = groups_labelled
