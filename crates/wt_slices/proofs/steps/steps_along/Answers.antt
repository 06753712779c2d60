use Rattle.std.proofs.Common.{arith}
use Rattle.wt_tree.specs.View.{views}
use Rattle.wt_slices.specs.Steps.{steps}
use Rattle.wt_slices.specs.Views.{child_views, steps_view}
use Rattle.wt_slices.proofs.StepWalk.{step_taken, all_taken}
use Rattle.wt_slices.proofs.steps.steps_along.Goals as goal

pub loop-child-preserved : goal.loop-child-preserved
loop-child-preserved c =
    step_taken c.args.holder c.args.old.now c.args.new.now c.loop-child.from c.in_ok-passed.passed c.loop-child.child-index c.child-item.result
    (steps_view c.loop-child.steps.items) (steps_view c.push_child.new.out.items) (steps c.args.holder (child_views c.args.old.now) (views c.args.new.now))
    c.loop-child.invariant.0 c.in_ok-passed.ensures.fits (omega arith) c.child-item.is c.loop-child.invariant.1 c.in_ok-passed.ensures.goes_on

pub returns : goal.returns
returns c =
    all_taken c.args.holder c.args.old.now c.args.new.now c.loop-child.from c.loop-child.child-index (steps_view c.loop-child.steps.items)
    (steps_view c.push_passed.new.out.items) (steps c.args.holder (child_views c.args.old.now) (views c.args.new.now))
    c.loop-child.invariant.0 (omega arith) c.loop-child.invariant.1 c.in_ok-push_passed.ensures
