use Rattle.wt_sections.proofs.Opened.{gathered_openings}
use Rattle.wt_sections.proofs.laws.headings_open_sections.Goals as goal

pub returns : goal.returns
returns c = gathered_openings
