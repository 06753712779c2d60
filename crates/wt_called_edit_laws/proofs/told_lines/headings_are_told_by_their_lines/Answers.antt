use Rattle.wt_called_edit_laws.proofs.Told.HeadItems.{told_only}
use Rattle.wt_called_edit_laws.proofs.Told.ToldPages.{heading_told}
use Rattle.wt_called_edit_laws.proofs.told_lines.headings_are_told_by_their_lines.Goals as goal

pub returns-clause-told : goal.returns-clause-told
returns-clause-told c = heading_told

pub returns-clause-only : goal.returns-clause-only
returns-clause-only c = told_only
