use Rattle.wt_tables.proofs.CellReads.{cells_joined}
use Rattle.wt_tables.proofs.laws.cells_join.Goals as goal

pub returns : goal.returns
returns c = cells_joined
