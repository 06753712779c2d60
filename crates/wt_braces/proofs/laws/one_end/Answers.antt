use Rattle.wt_braces.proofs.Reached.{one_end}
use Rattle.wt_braces.proofs.laws.one_end.Goals as goal

pub returns : goal.returns
returns c = one_end
