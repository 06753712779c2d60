use Rattle.wt_called_edit_laws.proofs.Told.ToldNodes.{told_styled, spot_styled}
use Rattle.wt_called_edit_laws.proofs.told_lines.nodes_of_told_blocks_stay.Goals as goal

pub returns-clause-told : goal.returns-clause-told
returns-clause-told c = told_styled

pub returns-clause-called : goal.returns-clause-called
returns-clause-called c = spot_styled
