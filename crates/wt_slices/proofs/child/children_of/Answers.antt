use Rattle.wt_tree.specs.declared.node.Node.{out-Node}
use Rattle.wt_slices.specs.Views.{child_trees}
use Rattle.wt_slices.proofs.Opening.{children_all}
use Rattle.wt_slices.proofs.child.children_of.Goals as goal

pub returns : goal.returns
returns c =
    children_all c.as_slice-child-items.result.now (out-Node c.args.node.now).children c.loop-child.child-index (child_trees c.loop-child.out.items)
    c.as_slice-child-items.ensures c.loop-child-test.false c.loop-child.invariant
