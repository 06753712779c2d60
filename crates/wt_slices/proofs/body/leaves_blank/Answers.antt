use Rattle.std.proofs.Common.{drop, refl}
use Rattle.wt_slices.specs.BodySlices.{leaves_blank}
use Rattle.wt_slices.specs.Views.{steps_view}
use Rattle.wt_slices.proofs.BodyWalk.{blank_later, blank_nowhere, blank_said}
use Rattle.wt_slices.proofs.body.leaves_blank.Goals as goal

pub loop-at-init : goal.loop-at-init
loop-at-init c = refl

pub returns-in-Some : goal.returns-in-Some
returns-in-Some c =
    blank_said c.args.steps.now c.loop-at.at c.index-steps-at.result c.loop-at.front c.is_parted.result c.parts-parted.result c.in-Some.blank
    (leaves_blank c.args.first (steps_view (drop c.args.from c.args.steps.now))) c.in_ok-said.said c.loop-at.invariant c.loop-at-test.true
    c.index-steps-at.is c.is_parted.ensures c.parts-parted.ensures c.in_ok-said.ensures c.in-Some.is

pub loop-at-preserved : goal.loop-at-preserved
loop-at-preserved c =
    blank_later c.args.steps.now c.loop-at.at c.index-steps-at.result c.loop-at.front c.in_ok-front.front c.is_parted.result c.parts-parted.result
    (leaves_blank c.args.first (steps_view (drop c.args.from c.args.steps.now))) c.in_ok-said.said c.loop-at.invariant c.loop-at-test.true
    c.index-steps-at.is c.is_parted.ensures c.parts-parted.ensures c.in_ok-said.ensures c.in_default.is c.in_ok-front.ensures

pub returns : goal.returns
returns c =
    blank_nowhere c.args.steps.now c.loop-at.at c.loop-at.front (leaves_blank c.args.first (steps_view (drop c.args.from c.args.steps.now))) c.loop-at.invariant
    c.loop-at-test.false
