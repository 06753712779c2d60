use Rattle.wt_functions.proofs.WholeLists.{asks_along}
use Rattle.wt_functions.proofs.laws.asks_along.Goals as goal

pub returns : goal.returns
returns c = asks_along
