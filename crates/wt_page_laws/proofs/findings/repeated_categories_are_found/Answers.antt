use Rattle.wt_page_laws.proofs.Repeats.{repeated}
use Rattle.wt_page_laws.proofs.findings.repeated_categories_are_found.Goals as goal

pub returns : goal.returns
returns c = repeated
