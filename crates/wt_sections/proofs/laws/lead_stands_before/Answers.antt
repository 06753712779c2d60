use Rattle.wt_sections.proofs.Opened.{lead_before}
use Rattle.wt_sections.proofs.laws.lead_stands_before.Goals as goal

pub returns : goal.returns
returns c = lead_before
