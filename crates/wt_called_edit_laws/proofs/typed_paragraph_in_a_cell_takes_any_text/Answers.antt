use Rattle.wt_called_edit_laws.proofs.Cells.OwnEdits.{own_edit}
use Rattle.wt_called_edit_laws.proofs.Cells.Takes.{again}
use Rattle.wt_called_edit_laws.proofs.typed_paragraph_in_a_cell_takes_any_text.Goals as goal

pub returns-clause-edit : goal.returns-clause-edit
returns-clause-edit c page path m text h = own_edit page path m text h.ungrouped

pub returns-clause-again : goal.returns-clause-again
returns-clause-again c = again
