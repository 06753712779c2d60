use Rattle.std.proofs.Common.{◌++◌, ◌∙◌, refl}
use Rattle.wt_checks.specs.View.{indexed}
use Rattle.wt_slices.specs.BodySlices.{body_slices, start}
use Rattle.wt_splice.specs.Views.{changes_view}
use Rattle.wt_slices.specs.Views.{steps_view}
use Rattle.wt_slices.proofs.BodyWalk.{body_end, body_turn}
use Rattle.wt_slices.proofs.body.push_body.Goals as goal

pub loop-at-init : goal.loop-at-init
loop-at-init c = (c.in_ok-ends.ensures, λ same tells. refl)

pub push_step-requires-clause-known : goal.push_step-requires-clause-known
push_step-requires-clause-known c = c.as_slice.ensures.value ∙ c.loop-at.invariant.0

pub loop-at-preserved : goal.loop-at-preserved
loop-at-preserved c = (
  c.loop-at.invariant.0,
  λ same tells.
      body_turn same (indexed c.args.index.now) c.args.steps.now c.loop-at.at c.index-steps-at.result c.loop-at.front c.in_ok-front.front
      (changes_view c.loop-at.found.items) (changes_view c.push_step.new.found.items)
      (changes_view c.args.found.now.items ++ body_slices same (indexed c.args.index.now) start (steps_view c.args.steps.now))
      c.loop-at-test.true c.index-steps-at.is (c.in_ok-push_step.ensures same tells) c.in_ok-front.ensures (c.loop-at.invariant.1 same tells),
)

pub returns : goal.returns
returns c = λ same tells.
    body_end same (indexed c.args.index.now) c.args.steps.now c.loop-at.at c.loop-at.front (changes_view c.loop-at.found.items)
    (changes_view c.args.found.now.items ++ body_slices same (indexed c.args.index.now) start (steps_view c.args.steps.now))
    c.loop-at-test.false (c.loop-at.invariant.1 same tells)
