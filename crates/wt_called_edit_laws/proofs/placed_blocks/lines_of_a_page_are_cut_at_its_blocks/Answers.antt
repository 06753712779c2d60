use Rattle.wt_called_edit_laws.proofs.Cells.PlacedLines.{lined_whole, lined_in, lined_called}
use Rattle.wt_called_edit_laws.proofs.placed_blocks.lines_of_a_page_are_cut_at_its_blocks.Goals as goal

pub returns-clause-whole : goal.returns-clause-whole
returns-clause-whole c = lined_whole

pub returns-clause-blocks : goal.returns-clause-blocks
returns-clause-blocks c = lined_in

pub returns-clause-called : goal.returns-clause-called
returns-clause-called c = lined_called
