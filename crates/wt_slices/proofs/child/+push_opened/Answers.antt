use Rattle.wt_slices.specs.Views.{child_trees}
use Rattle.wt_slices.proofs.Opening.{opened_turn, pushed_section}
use Rattle.wt_slices.proofs.child.+push_opened.Goals as goal

pub loop-child-preserved : goal.loop-child-preserved
loop-child-preserved t c =
    opened_turn c.as_slice-child-items.result.now c.loop-child.child-index c.child-item.result (child_trees c.args.out.now.items)
    (child_trees c.loop-child.out.items) (child_trees c.push_opened.new.out.items) c.loop-child-test.true c.child-item.is c.loop-child.invariant
    c.in_ok-push_opened.ensures

pub returns : goal.returns
returns t c =
    pushed_section c.args.node.now c.is_section.result c.as_slice-child-items.result.now c.loop-child.child-index (child_trees c.args.out.now.items)
    (child_trees c.loop-child.out.items) c.is_section.ensures c.if-not-is_section.false c.as_slice-child-items.ensures c.loop-child-test.false
    c.loop-child.invariant
