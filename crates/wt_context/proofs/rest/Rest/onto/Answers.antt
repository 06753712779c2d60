use Rattle.std.proofs.Common.{◌-◌, ap}
use Rattle.wt_inline.specs.Grown.{growth}
use Rattle.wt_context.specs.Tokens.{token_segments, rest_segments}
use Rattle.wt_context.proofs.Resting.{at_some, taken_step}
use Rattle.wt_context.proofs.rest.Rest.onto.Goals as goal

pub loop-left-preserved : goal.loop-left-preserved
loop-left-preserved c =
    let t = c.in-Some.token in
    let left = c.loop-left.left in
    let o = c.take-token.result.0 in
    let after = rest_segments c.take-token.result.1 in
    taken_step (growth c.args.children) (growth c.loop-left.children) (growth c.in_ok-children.children) c.args.n left (left - c.len-left.result)
    (rest_segments c.args.self) (rest_segments c.loop-left.rest) (token_segments t) after
    (at_some o t _ _ c.in-Some.is c.take-token.ensures.value) (at_some o t _ _ c.in-Some.is c.take-token.ensures.few)
    (ap (λ k. left - k) c.len-left.ensures.value) c.in_ok-children.ensures c.loop-left.invariant
