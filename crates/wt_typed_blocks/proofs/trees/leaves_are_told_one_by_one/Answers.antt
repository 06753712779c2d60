use Rattle.wt_typed_blocks.proofs.OneByOne.{leaves_each}
use Rattle.wt_typed_blocks.proofs.trees.leaves_are_told_one_by_one.Goals as goal

pub returns : goal.returns
returns c = leaves_each
