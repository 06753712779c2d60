use Rattle.wt_called_edit_laws.proofs.AllTold.LineBlocks.{block_on_lines}
use Rattle.wt_called_edit_laws.proofs.AllTold.RowBlocks.{block_on_rows}
use Rattle.wt_called_edit_laws.proofs.told_lines.each_block_stands_on_lines.Goals as goal

pub returns-clause-rows : goal.returns-clause-rows
returns-clause-rows c = block_on_rows

pub returns-clause-lines : goal.returns-clause-lines
returns-clause-lines c = block_on_lines
