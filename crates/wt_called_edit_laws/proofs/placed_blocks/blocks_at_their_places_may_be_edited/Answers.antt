use Rattle.wt_called_edit_laws.proofs.Cells.PlacedBlocks.{placed_whole, block_called}
use Rattle.wt_called_edit_laws.proofs.placed_blocks.blocks_at_their_places_may_be_edited.Goals as goal

pub returns-clause-whole : goal.returns-clause-whole
returns-clause-whole c = placed_whole

pub returns-clause-called : goal.returns-clause-called
returns-clause-called c = block_called
