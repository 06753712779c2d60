use Rattle.wt_beside_laws.proofs.Styled.StyledLines.{styled_line}
use Rattle.wt_beside_laws.proofs.Styled.StyledParagraphs.{styled_para, styled_meaning}
use Rattle.wt_beside_laws.proofs.styles.texts_in_styles_are_one_paragraph.Goals as goal

pub returns-clause-line : goal.returns-clause-line
returns-clause-line c = styled_line

pub returns-clause-paragraph : goal.returns-clause-paragraph
returns-clause-paragraph c = styled_para

pub returns-clause-page : goal.returns-clause-page
returns-clause-page c = styled_meaning
