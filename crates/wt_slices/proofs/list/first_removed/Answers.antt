use Rattle.wt_slices.proofs.ListWalk.{removed_here, removed_later, removed_none, removed_nowhere}
use Rattle.wt_slices.proofs.list.first_removed.Goals as goal

pub returns-then-child-number : goal.returns-then-child-number
returns-then-child-number c =
    removed_none c.args.number c.args.nodes.now c.loop-child.child-index c.child-item.result c.loop-child.invariant c.loop-child-test.true c.child-item.is
    c.if-child-number.true

pub returns-then-is_child : goal.returns-then-is_child
returns-then-is_child c =
    removed_here c.args.number c.start_of.result c.args.nodes.now c.loop-child.child-index c.child-item.result c.is_child.result c.loop-child.invariant
    c.loop-child-test.true c.child-item.is c.if-child-number.false c.is_child.ensures c.if-is_child.true c.start_of.ensures

pub loop-child-preserved : goal.loop-child-preserved
loop-child-preserved c =
    removed_later c.args.number c.args.nodes.now c.loop-child.child-index c.child-item.result c.is_child.result c.loop-child.invariant
    c.loop-child-test.true c.child-item.is c.if-child-number.false c.is_child.ensures c.if-is_child.false

pub returns : goal.returns
returns c = removed_nowhere c.args.number c.args.nodes.now c.loop-child.child-index c.loop-child.invariant c.loop-child-test.false
