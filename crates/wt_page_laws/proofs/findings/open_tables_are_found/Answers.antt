use Rattle.wt_page_laws.proofs.Doubts.{open_tables}
use Rattle.wt_page_laws.proofs.findings.open_tables_are_found.Goals as goal

pub returns : goal.returns
returns c = open_tables
