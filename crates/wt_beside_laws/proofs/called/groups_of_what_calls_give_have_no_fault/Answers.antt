use Rattle.wt_beside_laws.proofs.Groups.Faults.{no_fault}
use Rattle.wt_beside_laws.proofs.called.groups_of_what_calls_give_have_no_fault.Goals as goal

pub returns : goal.returns
returns c = no_fault
