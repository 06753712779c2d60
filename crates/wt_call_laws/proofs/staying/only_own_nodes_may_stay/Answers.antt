use Rattle.wt_call_laws.proofs.Unmoved.{only_own_nodes}
use Rattle.wt_call_laws.proofs.staying.only_own_nodes_may_stay.Goals as goal

pub returns : goal.returns
returns c = only_own_nodes
