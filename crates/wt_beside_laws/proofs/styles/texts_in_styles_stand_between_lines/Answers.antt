use Rattle.wt_beside_laws.proofs.Styled.StyledHeadings.{styled_heading_stands}
use Rattle.wt_beside_laws.proofs.Styled.StyledParagraphs.{styled_stands}
use Rattle.wt_beside_laws.proofs.styles.texts_in_styles_stand_between_lines.Goals as goal

pub returns-clause-paragraph : goal.returns-clause-paragraph
returns-clause-paragraph c = styled_stands

pub returns-clause-heading : goal.returns-clause-heading
returns-clause-heading c = styled_heading_stands
