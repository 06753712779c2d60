use Rattle.wt_called_edit_laws.proofs.Cells.PlacedCalling.{calling_placed}
use Rattle.wt_called_edit_laws.proofs.placed_blocks.all_blocks_that_call_may_be_edited.Goals as goal

pub returns : goal.returns
returns c = calling_placed
