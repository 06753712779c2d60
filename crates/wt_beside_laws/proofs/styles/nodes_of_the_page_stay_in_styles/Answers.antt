use Rattle.wt_beside_laws.proofs.Styled.StyledNodes.{styled_content}
use Rattle.wt_beside_laws.proofs.styles.nodes_of_the_page_stay_in_styles.Goals as goal

pub returns : goal.returns
returns c = styled_content
