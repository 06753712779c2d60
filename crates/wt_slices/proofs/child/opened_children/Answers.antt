use Rattle.std.proofs.Common.{[]}
use Rattle.wt_tree.specs.declared.node.Node.{out-Node}
use Rattle.wt_slices.specs.Views.{child_trees}
use Rattle.wt_slices.proofs.Opening.{opened_turn, opened_all}
use Rattle.wt_slices.proofs.child.opened_children.Goals as goal

pub loop-child-preserved : goal.loop-child-preserved
loop-child-preserved c =
    opened_turn c.as_slice-child-items.result.now c.loop-child.child-index c.child-item.result [] (child_trees c.loop-child.out.items)
    (child_trees c.push_opened.new.out.items) c.loop-child-test.true c.child-item.is c.loop-child.invariant c.in_ok-push_opened.ensures

pub returns : goal.returns
returns c =
    opened_all c.as_slice-child-items.result.now (out-Node c.args.body.now).children c.loop-child.child-index (child_trees c.loop-child.out.items)
    c.as_slice-child-items.ensures c.loop-child-test.false c.loop-child.invariant
