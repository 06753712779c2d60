use Rattle.wt_called_edit_laws.proofs.Among.ToldAmong.{told_among}
use Rattle.wt_called_edit_laws.proofs.Told.ToldPages.{told_lined, told_called}
use Rattle.wt_called_edit_laws.proofs.told_lines.blocks_are_told_by_their_lines.Goals as goal

pub returns-clause-lined : goal.returns-clause-lined
returns-clause-lined c = told_lined

pub returns-clause-called : goal.returns-clause-called
returns-clause-called c = told_called

pub returns-clause-among : goal.returns-clause-among
returns-clause-among c = told_among
