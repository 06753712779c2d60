use Rattle.wt_called_edit_laws.proofs.Cells.CellSpots.{cell_spots}
use Rattle.wt_called_edit_laws.proofs.pages_with_a_paragraph_in_a_cell_are_such.Goals as goal

pub returns : goal.returns
returns c = cell_spots
