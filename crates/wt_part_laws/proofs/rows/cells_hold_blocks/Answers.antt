use Rattle.wt_part_laws.proofs.CellBlocks.{cells_hold}
use Rattle.wt_part_laws.proofs.rows.cells_hold_blocks.Goals as goal

pub returns : goal.returns
returns c = cells_hold
