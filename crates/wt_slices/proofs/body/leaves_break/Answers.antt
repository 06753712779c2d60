use Rattle.wt_slices.proofs.BodyWalk.{break_later, break_nowhere, break_said}
use Rattle.wt_slices.proofs.body.leaves_break.Goals as goal

pub returns-in-Some : goal.returns-in-Some
returns-in-Some c =
    break_said c.args.steps.now c.loop-step.step-index c.step-item.result c.in_ok-said.said c.in-Some.broken c.loop-step.invariant c.loop-step-test.true
    c.step-item.is c.in_ok-said.ensures c.in-Some.is

pub loop-step-preserved : goal.loop-step-preserved
loop-step-preserved c =
    break_later c.args.steps.now c.loop-step.step-index c.step-item.result c.in_ok-said.said c.loop-step.invariant c.loop-step-test.true c.step-item.is
    c.in_ok-said.ensures c.in_default.is

pub returns : goal.returns
returns c = break_nowhere c.args.steps.now c.loop-step.step-index c.loop-step.invariant c.loop-step-test.false
