use Rattle.wt_page_laws.proofs.TextDoubts.{open_links, stray_links}
use Rattle.wt_page_laws.proofs.findings.brackets_are_found.Goals as goal

pub returns-clause-opening : goal.returns-clause-opening
returns-clause-opening c = open_links

pub returns-clause-closing : goal.returns-clause-closing
returns-clause-closing c = stray_links
