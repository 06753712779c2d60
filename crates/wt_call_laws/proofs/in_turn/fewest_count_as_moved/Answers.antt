use Rattle.wt_call_laws.proofs.Choosing.{fewest_moved}
use Rattle.wt_call_laws.proofs.in_turn.fewest_count_as_moved.Goals as goal

pub returns : goal.returns
returns c = fewest_moved
