-- Bold and italic beside calls may be in headings.
use Rattle.wt_beside_laws.proofs.StyledGroups.Headings.{styled_heading_block, styled_heading_holds, styled_inside, styled_level}
use Rattle.wt_beside_laws.proofs.called.styles_beside_calls_may_be_in_headings.Goals as goal

pub returns-clause-inside : goal.returns-clause-inside
returns-clause-inside c = styled_inside

pub returns-clause-level : goal.returns-clause-level
returns-clause-level c = styled_level

pub returns-clause-holds : goal.returns-clause-holds
returns-clause-holds c = styled_heading_holds

pub returns-clause-block : goal.returns-clause-block
returns-clause-block c = styled_heading_block
