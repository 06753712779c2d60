use Rattle.wt_annotated.proofs.PlainTrees.{some_trees}
use Rattle.wt_annotated.proofs.filled.are_some.Goals as goal

pub returns-in_default : goal.returns-in_default
returns-in_default c = some_trees c.args.trees.now c.in_default.len_at_least
