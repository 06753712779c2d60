use Rattle.wt_sections.proofs.Deep.{deep}
use Rattle.wt_sections.proofs.laws.sections_are_deep.Goals as goal

pub returns : goal.returns
returns c = deep
