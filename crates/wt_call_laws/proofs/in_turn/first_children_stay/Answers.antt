use Rattle.wt_call_laws.proofs.Choosing.{turns_come_first}
use Rattle.wt_call_laws.proofs.in_turn.first_children_stay.Goals as goal

pub returns : goal.returns
returns c = turns_come_first
