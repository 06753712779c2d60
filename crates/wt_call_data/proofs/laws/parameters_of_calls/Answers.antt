use Rattle.wt_call_data.proofs.Params.{names_ascend, last_stands}
use Rattle.wt_call_data.proofs.laws.parameters_of_calls.Goals as goal

pub returns : goal.returns
returns c = record { ascend = names_ascend; last = last_stands }
