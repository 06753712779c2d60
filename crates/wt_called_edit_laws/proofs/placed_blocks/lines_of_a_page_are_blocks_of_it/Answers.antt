use Rattle.wt_called_edit_laws.proofs.Cells.PlacedBlocks.{heading_in, paragraph_in}
use Rattle.wt_called_edit_laws.proofs.placed_blocks.lines_of_a_page_are_blocks_of_it.Goals as goal

pub returns-clause-headings : goal.returns-clause-headings
returns-clause-headings c = heading_in

pub returns-clause-paragraphs : goal.returns-clause-paragraphs
returns-clause-paragraphs c = paragraph_in
