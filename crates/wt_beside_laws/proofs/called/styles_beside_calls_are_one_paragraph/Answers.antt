-- Bold and italic beside calls are one paragraph with these.
use Rattle.wt_beside_laws.proofs.StyledGroups.Blocks.{styled_called_block, styled_called_holds}
use Rattle.wt_beside_laws.proofs.StyledGroups.Paragraphs.{styled_called_parts}
use Rattle.wt_beside_laws.proofs.StyledGroups.Shown.{styled_called_shows}
use Rattle.wt_beside_laws.proofs.called.styles_beside_calls_are_one_paragraph.Goals as goal

pub returns-clause-parts : goal.returns-clause-parts
returns-clause-parts c = styled_called_parts

pub returns-clause-holds : goal.returns-clause-holds
returns-clause-holds c = styled_called_holds

pub returns-clause-block : goal.returns-clause-block
returns-clause-block c = styled_called_block

pub returns-clause-shown : goal.returns-clause-shown
returns-clause-shown c = styled_called_shows
