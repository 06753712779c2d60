use Rattle.wt_beside_laws.proofs.Styled.WithoutStyles.{flat_content, flat_edit, flat_makes, flat_then}
use Rattle.wt_beside_laws.proofs.flat_contents_are_made.Goals as goal

pub returns-clause-content : goal.returns-clause-content
returns-clause-content c = flat_content

pub returns-clause-edit : goal.returns-clause-edit
returns-clause-edit c = flat_edit

pub returns-clause-made : goal.returns-clause-made
returns-clause-made c = flat_makes

pub returns-clause-again : goal.returns-clause-again
returns-clause-again c = flat_then
