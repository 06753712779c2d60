use Rattle.wt_page_laws.proofs.Tables.{parts_laid_out}
use Rattle.wt_page_laws.proofs.table.parts_of_tables.Goals as goal

pub returns : goal.returns
returns g c = parts_laid_out
