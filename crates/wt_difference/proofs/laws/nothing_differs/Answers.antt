use Rattle.wt_difference.proofs.UneditedLaws.{nothing_differs}
use Rattle.wt_difference.proofs.laws.nothing_differs.Goals as goal

pub returns : goal.returns
returns c = nothing_differs
