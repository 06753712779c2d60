use Rattle.wt_beside_laws.proofs.LineItems.{content_lines_are}
use Rattle.wt_beside_laws.proofs.LineKinds.{are_lines_of_text}
use Rattle.wt_beside_laws.proofs.texts_beside_nodes_are_lines_of_text.Goals as goal

pub returns-clause-lines : goal.returns-clause-lines
returns-clause-lines c = content_lines_are

pub returns-clause-text : goal.returns-clause-text
returns-clause-text c = are_lines_of_text
