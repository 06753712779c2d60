use Rattle.wt_expand.proofs.Turns.{asks_in_turn}
use Rattle.wt_expand.proofs.laws.functions_ask_in_turn.Goals as goal

pub returns : goal.returns
returns c = asks_in_turn
