use Rattle.wt_checks.proofs.Sections.{no_difference}
use Rattle.wt_checks.proofs.laws.sections_make_no_difference.Goals as goal

pub returns : goal.returns
returns c = no_difference
