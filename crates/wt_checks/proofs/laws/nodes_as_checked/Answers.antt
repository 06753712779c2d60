use Rattle.wt_checks.proofs.NodesAlone.{refused_alone, taken_alone}
use Rattle.wt_checks.proofs.laws.nodes_as_checked.Goals as goal

pub returns : goal.returns
returns c = record { refused = refused_alone; taken = taken_alone }
