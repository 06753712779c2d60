use Rattle.wt_call_laws.proofs.Choosing.{turns_are_rising}
use Rattle.wt_call_laws.proofs.in_turn.turns_rise.Goals as goal

pub returns : goal.returns
returns c = turns_are_rising
