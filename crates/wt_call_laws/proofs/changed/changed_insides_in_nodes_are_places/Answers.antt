use Rattle.wt_call_laws.proofs.Deep.{inside_there}
use Rattle.wt_call_laws.proofs.changed.changed_insides_in_nodes_are_places.Goals as goal

pub returns : goal.returns
returns c = inside_there
