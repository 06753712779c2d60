use Rattle.wt_typed_blocks.proofs.ChildrenStand.{children_stand}
use Rattle.wt_typed_blocks.proofs.content.children_by_grammar.Goals as goal

pub returns : goal.returns
returns c = children_stand
