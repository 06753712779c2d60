use Rattle.wt_selser.proofs.Sections.{answers_same, slices_same}
use Rattle.wt_selser.proofs.laws.sections_make_no_difference.Goals as goal

pub returns : goal.returns
returns c = record { answers = answers_same; sliced = slices_same }
