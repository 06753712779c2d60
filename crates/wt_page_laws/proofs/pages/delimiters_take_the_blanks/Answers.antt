use Rattle.wt_page_laws.proofs.Blanks.{delimiters_taken, cells_bare}
use Rattle.wt_page_laws.proofs.pages.delimiters_take_the_blanks.Goals as goal

pub returns-clause-items : goal.returns-clause-items
returns-clause-items c = delimiters_taken

pub returns-clause-cells : goal.returns-clause-cells
returns-clause-cells c = cells_bare
