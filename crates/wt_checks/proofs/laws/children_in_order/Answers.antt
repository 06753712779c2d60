use Rattle.wt_checks.proofs.ChildOrder.{all_in_order}
use Rattle.wt_checks.proofs.laws.children_in_order.Goals as goal

pub returns : goal.returns
returns c = all_in_order
