use Rattle.std.proofs.Common.{sym, ◌∙◌, arith}
use Rattle.std.proofs.lemmas.Result.{IfOk-weaker}
use Rattle.wt_annotated.specs.Pieces.{outer_calls}
use Rattle.wt_ranges.proofs.CarriedNumbers.{call_number}
use Rattle.wt_ranges.proofs.CarriedParts.{begun, call_goes_on, stays, text_goes_on}
use Rattle.wt_ranges.proofs.carried.with_piece.Goals as goal

pub with_call-requires-clause-room : goal.with_call-requires-clause-room
with_call-requires-clause-room c =
    let b = begun c.args.before c.args.piece (sym c.begins.ensures ∙ c.if-not-begins.false) in
    let few = call_number (outer_calls c.args.calls.now) c.args.before c.args.piece c.in-Some.call c.args.found.number b.0 b.1
    (sym c.call_of.ensures ∙ c.in-Some.is) c.requires.sound in
    omega (arith, few, c.requires.room)

pub returns-then-not-begins-clause-parts : goal.returns-then-not-begins-clause-parts
returns-then-not-begins-clause-parts c = stays (outer_calls c.args.calls.now) c.args.before c.args.found c.args.piece (sym c.begins.ensures ∙ c.if-not-begins.true)

pub returns-in-None-clause-parts : goal.returns-in-None-clause-parts
returns-in-None-clause-parts c =
    let b = begun c.args.before c.args.piece (sym c.begins.ensures ∙ c.if-not-begins.false) in
    IfOk-weaker c.with_text.result _ _
    (λ f t. text_goes_on (outer_calls c.args.calls.now) c.args.before c.args.found f c.args.piece b.0 b.1 (sym c.call_of.ensures ∙ c.in-None.is) t)
    c.with_text.ensures

pub returns-in-None-clause-number : goal.returns-in-None-clause-number
returns-in-None-clause-number c = IfOk-weaker c.with_text.result _ _ (λ f t. let same = t.number in omega (arith, same)) c.with_text.ensures

pub returns-in-Some-clause-number : goal.returns-in-Some-clause-number
returns-in-Some-clause-number c =
    let b = begun c.args.before c.args.piece (sym c.begins.ensures ∙ c.if-not-begins.false) in
    let few = call_number (outer_calls c.args.calls.now) c.args.before c.args.piece c.in-Some.call c.args.found.number b.0 b.1
    (sym c.call_of.ensures ∙ c.in-Some.is) c.requires.sound in
    IfOk-weaker c.with_call.result _ _ (λ f t. let same = t.number in omega (arith, few, same)) c.with_call.ensures

pub returns-in-Some-clause-parts : goal.returns-in-Some-clause-parts
returns-in-Some-clause-parts c =
    let b = begun c.args.before c.args.piece (sym c.begins.ensures ∙ c.if-not-begins.false) in
    IfOk-weaker c.with_call.result _ _
    (λ f t. call_goes_on (outer_calls c.args.calls.now) c.args.before c.args.found f c.args.piece c.in-Some.call b.0 b.1
    (sym c.call_of.ensures ∙ c.in-Some.is) t)
    c.with_call.ensures
