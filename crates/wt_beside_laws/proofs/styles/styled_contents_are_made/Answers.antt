use Rattle.wt_beside_laws.proofs.Styled.Making.{styled_makes, styled_then}
use Rattle.wt_beside_laws.proofs.styles.styled_contents_are_made.Goals as goal

pub returns-clause-made : goal.returns-clause-made
returns-clause-made c = styled_makes

pub returns-clause-again : goal.returns-clause-again
returns-clause-again c = styled_then
