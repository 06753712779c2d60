use Rattle.wt_tiles.proofs.Counting.{partner_found, partner_none}
use Rattle.wt_tiles.proofs.laws.partners_balance.Goals as goal

pub returns-clause-found : goal.returns-clause-found
returns-clause-found c = partner_found

pub returns-clause-none : goal.returns-clause-none
returns-clause-none c = partner_none
