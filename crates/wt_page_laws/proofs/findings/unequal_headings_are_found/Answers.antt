use Rattle.wt_page_laws.proofs.Doubts.{unequal_headings}
use Rattle.wt_page_laws.proofs.findings.unequal_headings_are_found.Goals as goal

pub returns : goal.returns
returns c = unequal_headings
