use Rattle.wt_beside_laws.proofs.StyledGroups.Even.{called_even, heading_even, styled_even, styled_heading_even}
use Rattle.wt_beside_laws.proofs.called.lines_with_calls_have_even_toggles.Goals as goal

pub returns-clause-texts : goal.returns-clause-texts
returns-clause-texts c = called_even

pub returns-clause-headings : goal.returns-clause-headings
returns-clause-headings c = heading_even

pub returns-clause-styles : goal.returns-clause-styles
returns-clause-styles c = styled_even

pub returns-clause-styled_headings : goal.returns-clause-styled_headings
returns-clause-styled_headings c = styled_heading_even
