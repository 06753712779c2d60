use Rattle.wt_called_edit_laws.proofs.Cells.PlacedSpots.{spots_called}
use Rattle.wt_called_edit_laws.proofs.placed_blocks.all_blocks_at_their_places_may_be_edited.Goals as goal

pub returns : goal.returns
returns c = spots_called
