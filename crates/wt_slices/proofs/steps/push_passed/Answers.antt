use Rattle.std.proofs.Common.{arith, ◌++◌}
use Rattle.wt_slices.specs.Steps.{passed}
use Rattle.wt_slices.specs.Views.{child_views, steps_view}
use Rattle.wt_slices.proofs.StepWalk.{passed_turn, passed_end}
use Rattle.wt_slices.proofs.steps.push_passed.Goals as goal

pub loop-child-preserved : goal.loop-child-preserved
loop-child-preserved c =
    passed_turn c.args.holder c.args.nodes.now c.loop-child.child-index c.child-item.result (steps_view c.loop-child.out.items)
    (steps_view c.push_passed_one.new.out.items) (steps_view c.args.out.now.items ++ passed c.args.holder (child_views c.args.nodes.now))
    (omega arith) c.child-item.is c.in_ok-push_passed_one.ensures c.loop-child.invariant

pub returns : goal.returns
returns c =
    passed_end c.args.holder c.args.nodes.now c.loop-child.child-index (steps_view c.loop-child.out.items)
    (steps_view c.args.out.now.items ++ passed c.args.holder (child_views c.args.nodes.now)) (omega arith) c.loop-child.invariant
