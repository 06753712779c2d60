use Rattle.std.proofs.Common.{arith, ap, refl, sym, ◌∙◌, map}
use Rattle.wt_span.specs.Origins.{span_of}
use Rattle.wt_isolation.specs.TextCalls.{touches_text_call}
use Rattle.wt_isolation.proofs.Passing.{by_passed, none_touched}
use Rattle.wt_isolation.proofs.text_call.CallPass.touches.Goals as goal

pub returns-then-block-clause-value : goal.returns-then-block-clause-value
returns-then-block-clause-value c =
    let calls = map span_of c.args.calls.now in
    sym (ap (touches_text_call calls) c.in-Some.is ∙ none_touched calls c.in-Some.block c.if-block.true)

pub returns-clause-value : goal.returns-clause-value
returns-clause-value c =
    let calls = map span_of c.args.calls.now in
    let block = c.in-Some.block in
    let pass = c.up_to-pass.result in
    let reached = c.up_to-pass.ensures.reached in
    by_passed calls pass.passed block pass.furthest (c.up_to-pass.ensures.passed_after.told block c.if-block.false (omega (arith, reached)))
    (c.up_to-pass.ensures.left block refl)
    ∙ ap (touches_text_call calls) (sym c.in-Some.is)
