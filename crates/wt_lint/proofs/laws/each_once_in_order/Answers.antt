use Rattle.wt_lint.proofs.InOrder.{same, sorted}
use Rattle.wt_lint.proofs.laws.each_once_in_order.Goals as goal

pub returns : goal.returns
returns c = record { ordered = sorted; same = same }
