use Rattle.wt_call_laws.proofs.Choosing.{none_takes_more}
use Rattle.wt_call_laws.proofs.in_turn.no_choice_takes_more.Goals as goal

pub returns : goal.returns
returns c = none_takes_more
