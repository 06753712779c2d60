use Rattle.wt_call_laws.proofs.Unmoved.{own_nodes}
use Rattle.wt_call_laws.proofs.staying.own_nodes_may_stay.Goals as goal

pub returns : goal.returns
returns c = own_nodes
