use Rattle.wt_called_edit_laws.proofs.CalmPages.{calm_contents}
use Rattle.wt_called_edit_laws.proofs.Cells.CalledFrames.{texts_are_contents}
use Rattle.wt_called_edit_laws.proofs.pages_without_calls_are_called_pages.Goals as goal

pub returns-clause-called : goal.returns-clause-called
returns-clause-called c pages ss behind = calm_contents pages ss behind

pub returns-clause-texts : goal.returns-clause-texts
returns-clause-texts c = texts_are_contents
