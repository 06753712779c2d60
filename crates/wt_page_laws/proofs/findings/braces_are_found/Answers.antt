use Rattle.wt_page_laws.proofs.TextDoubts.{open_braces, stray_braces}
use Rattle.wt_page_laws.proofs.findings.braces_are_found.Goals as goal

pub returns-clause-opening : goal.returns-clause-opening
returns-clause-opening c = open_braces

pub returns-clause-closing : goal.returns-clause-closing
returns-clause-closing c = stray_braces
