use Rattle.wt_call_laws.proofs.Choosing.{no_other}
use Rattle.wt_call_laws.proofs.in_turn.no_other_choice_is_first_of_most.Goals as goal

pub returns : goal.returns
returns c = no_other
