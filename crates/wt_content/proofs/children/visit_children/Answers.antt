use Rattle.std.proofs.Common.{arith}
use Rattle.wt_tree.specs.View.{view}
use Rattle.wt_content.specs.Children.{child_faults}
use Rattle.wt_content.proofs.ChildFaulting.{next_child, all_children}
use Rattle.wt_content.proofs.children.visit_children.Goals as goal

pub loop-node-preserved : goal.loop-node-preserved
loop-node-preserved c = λ same tells ws h.
    next_child (λ n. child_faults same c.args.holder (view n)) c.visit_child.new.found ws c.args.nodes.now c.loop-node.node-index c.node-item.result
    (omega arith) c.node-item.is (c.in_ok-visit_child.ensures same tells _ (c.loop-node.invariant same tells ws h))

pub returns : goal.returns
returns c = λ same tells ws h.
    all_children same c.args.holder c.loop-node.found ws c.args.nodes.now c.loop-node.node-index
    (omega arith) (c.loop-node.invariant same tells ws h)
