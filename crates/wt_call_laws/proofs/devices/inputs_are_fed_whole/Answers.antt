use Rattle.wt_call_laws.proofs.Joining.{fed_all, fed_so_far}
use Rattle.wt_call_laws.proofs.devices.inputs_are_fed_whole.Goals as goal

pub returns-clause-all : goal.returns-clause-all
returns-clause-all c = fed_all

pub returns-clause-so_far : goal.returns-clause-so_far
returns-clause-so_far c = fed_so_far
