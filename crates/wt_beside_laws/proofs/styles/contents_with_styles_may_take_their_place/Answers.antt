use Rattle.wt_beside_laws.proofs.Styled.OldStyled.{styled_in_content}
use Rattle.wt_beside_laws.proofs.Styled.StyledWritten.{styled_new, styled_again}
use Rattle.wt_beside_laws.proofs.styles.contents_with_styles_may_take_their_place.Goals as goal

pub returns-clause-content : goal.returns-clause-content
returns-clause-content c = styled_in_content

pub returns-clause-new : goal.returns-clause-new
returns-clause-new c = styled_new

pub returns-clause-again : goal.returns-clause-again
returns-clause-again c = styled_again
