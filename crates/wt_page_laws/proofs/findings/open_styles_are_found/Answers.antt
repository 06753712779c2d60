use Rattle.wt_page_laws.proofs.Doubts.{open_styles}
use Rattle.wt_page_laws.proofs.findings.open_styles_are_found.Goals as goal

pub returns : goal.returns
returns c = open_styles
