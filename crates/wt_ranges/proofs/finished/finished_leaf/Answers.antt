use Rattle.wt_tree.specs.View.{view}
use Rattle.wt_annotated.specs.Pieces.{outer_calls}
use Rattle.wt_ranges.proofs.Finishing.{leaf_finished}
use Rattle.wt_ranges.proofs.finished.finished_leaf.Goals as goal

pub returns : goal.returns
returns c =
    leaf_finished (outer_calls c.args.calls.now) c.args.child (view c.in_ok-leaf.leaf) (view c.alone.result.node) c.args.next c.alone.result.next c.requires.leaf
    c.in_ok-leaf.ensures c.alone.ensures.tree c.alone.ensures.number
