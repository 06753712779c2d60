use Rattle.wt_call_laws.proofs.Choosing.{all_stay}
use Rattle.wt_call_laws.proofs.in_turn.children_in_order_stay.Goals as goal

pub returns : goal.returns
returns c = all_stay
