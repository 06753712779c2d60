use Rattle.wt_page_laws.proofs.Doubts.{open_tags, stray_tags}
use Rattle.wt_page_laws.proofs.findings.lone_tags_are_found.Goals as goal

pub returns-clause-opening : goal.returns-clause-opening
returns-clause-opening c = open_tags

pub returns-clause-closing : goal.returns-clause-closing
returns-clause-closing c = stray_tags
