use Rattle.wt_beside_laws.proofs.LineHeadings.{heading_inside, content_level}
use Rattle.wt_beside_laws.proofs.Styled.Plain.{heading_tree}
use Rattle.wt_beside_laws.proofs.texts_beside_nodes_may_be_in_headings.Goals as goal

pub returns-clause-inside : goal.returns-clause-inside
returns-clause-inside c = heading_inside

pub returns-clause-level : goal.returns-clause-level
returns-clause-level c = content_level

pub returns-clause-heading : goal.returns-clause-heading
returns-clause-heading c = heading_tree
