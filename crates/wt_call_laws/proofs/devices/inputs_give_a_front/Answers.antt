use Rattle.wt_call_laws.proofs.Joining.{gives_front}
use Rattle.wt_call_laws.proofs.devices.inputs_give_a_front.Goals as goal

pub returns : goal.returns
returns c = gives_front
