use Rattle.wt_expand.proofs.NoCalls.{without_calls}
use Rattle.wt_expand.proofs.laws.without_calls.Goals as goal

pub returns : goal.returns
returns c = without_calls
