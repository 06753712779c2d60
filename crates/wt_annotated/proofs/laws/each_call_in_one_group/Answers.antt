use Rattle.wt_annotated.proofs.Calls.{all_calls}
use Rattle.wt_annotated.proofs.laws.each_call_in_one_group.Goals as goal

pub returns : goal.returns
returns c = all_calls
