use Rattle.wt_page.proofs.HeldRows.{rows_join}
use Rattle.wt_page.proofs.laws.rows_join.Goals as goal

pub returns : goal.returns
returns c = rows_join
