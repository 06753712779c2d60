use Rattle.wt_typed_blocks.proofs.OneByOne.{frames_each}
use Rattle.wt_typed_blocks.proofs.trees.frames_are_told_one_by_one.Goals as goal

pub returns : goal.returns
returns c = frames_each
