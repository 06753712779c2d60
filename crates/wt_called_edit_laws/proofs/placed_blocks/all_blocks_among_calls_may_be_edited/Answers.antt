use Rattle.wt_called_edit_laws.proofs.Cells.PlacedAmong.{placed_editable}
use Rattle.wt_called_edit_laws.proofs.placed_blocks.all_blocks_among_calls_may_be_edited.Goals as goal

pub returns : goal.returns
returns c = placed_editable
