use Rattle.wt_expand.proofs.Joins.{origins_join}
use Rattle.wt_expand.proofs.laws.origins_join.Goals as goal

pub returns : goal.returns
returns c = origins_join
