use Rattle.wt_page_laws.proofs.CellNames.{cells_named}
use Rattle.wt_page_laws.proofs.pages.cells_are_named_by_their_line.Goals as goal

pub returns : goal.returns
returns c = cells_named
