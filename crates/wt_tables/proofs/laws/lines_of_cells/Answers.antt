use Rattle.wt_tables.proofs.CellLines.{cell_lines, caption_lines}
use Rattle.wt_tables.proofs.laws.lines_of_cells.Goals as goal

pub returns-clause-cells : goal.returns-clause-cells
returns-clause-cells c = cell_lines

pub returns-clause-captions : goal.returns-clause-captions
returns-clause-captions c = caption_lines
