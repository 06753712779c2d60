use Rattle.wt_call_laws.proofs.Deep.{come_there}
use Rattle.wt_call_laws.proofs.changed.what_comes_into_nodes_has_a_place.Goals as goal

pub returns : goal.returns
returns c = come_there
