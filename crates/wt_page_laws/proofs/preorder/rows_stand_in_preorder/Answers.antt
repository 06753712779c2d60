use Rattle.wt_page_laws.proofs.Rows.{own_first, stand_together}
use Rattle.wt_page_laws.proofs.preorder.rows_stand_in_preorder.Goals as goal

pub returns-clause-own : goal.returns-clause-own
returns-clause-own c = own_first

pub returns-clause-together : goal.returns-clause-together
returns-clause-together c = stand_together
