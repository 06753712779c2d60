use Rattle.wt_checks.proofs.NodesUnmarked.{checked_unmarked}
use Rattle.wt_checks.proofs.laws.nodes_without_marks.Goals as goal

pub returns : goal.returns
returns c = checked_unmarked
