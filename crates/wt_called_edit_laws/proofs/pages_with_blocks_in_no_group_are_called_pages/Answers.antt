use Rattle.wt_called_edit_laws.proofs.BlocksOutside.{called_editable, editable_called}
use Rattle.wt_called_edit_laws.proofs.pages_with_blocks_in_no_group_are_called_pages.Goals as goal

pub returns-clause-called : goal.returns-clause-called
returns-clause-called c = editable_called

pub returns-clause-editable : goal.returns-clause-editable
returns-clause-editable c = called_editable
