use Rattle.std.proofs.Common.{true, [], ◌∷◌, ◌++◌, ap, ◌∙◌}
use Rattle.wt_slices.proofs.BodyWalk.{ends_all, ends_begin, ends_turn}
use Rattle.wt_slices.proofs.body.parted_ends.Goals as goal

pub loop-at-init : goal.loop-at-init
loop-at-init c =
    ends_begin c.args.steps.now c.push.new.self.items (c.in_ok-push.ensures.items ∙ ap (λ ys. ys ++ true ∷ []) c.new-ends.ensures.items)

pub loop-at-preserved : goal.loop-at-preserved
loop-at-preserved c =
    ends_turn c.args.steps.now c.loop-at.at c.index-steps-steps.result c.loop-at.ends.items c.push-in-loop-at.new.self.items c.loop-at.parted c.in_ok-parted.parted
    c.loop-at-test.true c.loop-at.invariant.0 c.loop-at.invariant.1 c.index-steps-steps.is c.in_ok-parted.ensures c.in_ok-push-2.ensures.items

pub returns : goal.returns
returns c = ends_all c.args.steps.now c.loop-at.at c.loop-at.ends.items c.loop-at-test.false c.loop-at.invariant.0
