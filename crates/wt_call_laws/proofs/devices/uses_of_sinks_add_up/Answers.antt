use Rattle.wt_call_laws.proofs.Joining.{took_both, failed_both, untouched_is}
use Rattle.wt_call_laws.proofs.devices.uses_of_sinks_add_up.Goals as goal

pub returns-clause-took : goal.returns-clause-took
returns-clause-took c = took_both

pub returns-clause-failed : goal.returns-clause-failed
returns-clause-failed c = failed_both

pub returns-clause-nothing : goal.returns-clause-nothing
returns-clause-nothing c = untouched_is
