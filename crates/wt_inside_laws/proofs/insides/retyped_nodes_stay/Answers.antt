use Rattle.wt_inside_laws.proofs.insides.retyped_nodes_stay.Goals as goal
use Rattle.wt_inside_laws.proofs.RetypedStay.{retyped_stay}

pub returns : goal.returns
returns c = retyped_stay
