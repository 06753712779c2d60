use Rattle.wt_sections.proofs.Opened.{gathered_opened}
use Rattle.wt_sections.proofs.laws.sections_open_again.Goals as goal

pub returns : goal.returns
returns c = gathered_opened
