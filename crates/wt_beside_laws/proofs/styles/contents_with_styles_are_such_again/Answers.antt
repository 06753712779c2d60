use Rattle.wt_beside_laws.proofs.Styled.StyledAgain.{again_lines, again_kept, again_shut}
use Rattle.wt_beside_laws.proofs.styles.contents_with_styles_are_such_again.Goals as goal

pub returns-clause-lines : goal.returns-clause-lines
returns-clause-lines c = again_lines

pub returns-clause-kept : goal.returns-clause-kept
returns-clause-kept c = again_kept

pub returns-clause-shut : goal.returns-clause-shut
returns-clause-shut c = again_shut
