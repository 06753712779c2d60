use Rattle.wt_beside_laws.proofs.Styled.StyledHeadings.{styled_inside, styled_level, styled_heading}
use Rattle.wt_beside_laws.proofs.styles.texts_in_styles_may_be_in_headings.Goals as goal

pub returns-clause-inside : goal.returns-clause-inside
returns-clause-inside c = styled_inside

pub returns-clause-level : goal.returns-clause-level
returns-clause-level c = styled_level

pub returns-clause-heading : goal.returns-clause-heading
returns-clause-heading c = styled_heading
