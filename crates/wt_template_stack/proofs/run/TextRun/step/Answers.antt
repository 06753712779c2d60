use Rattle.std.proofs.Common.{◌≡◌, Err, refl, rules, subst, sym, ap, ◌∙◌, ◌+◌, ◌<◌, arith}
use Rattle.std.specs.Prelude.{IfOk}
use Rattle.std.proofs.lemmas.Result.{IfOk-weaker}
use Rattle.wt_span.specs.Items.{items}
use Rattle.wt_expand.specs.Expansion.{just}
use Rattle.wt_template_stack.specs.Measures.{GetsOn, bytes_left, most_steps, steps_behind_all, steps_left}
use Rattle.wt_template_stack.specs.Runs.{AnswersTurn}
use Rattle.wt_template_stack.proofs.MeasureLaws.{got_on}
use Rattle.wt_template_stack.proofs.StepLaws.{at_end, read_to_end, text_ends}
use Rattle.wt_template_stack.proofs.run.TextRun.step.Goals as goal

pub returns-then-is_before-clause-answer : goal.returns-then-is_before-clause-answer
returns-then-is_before-clause-answer c = λ r t total h v s. c.in_ok-read.ensures.answer r t total h c.end-end.ensures

pub returns-in_err-read-clause-answer : goal.returns-in_err-read-clause-answer
returns-in_err-read-clause-answer c = λ r t total h v s.
    let e : c.from_residual.result ≡ Err c.in_err-read.field-0.0 = search rules in
    subst (λ x. AnswersTurn r t c.args.spent.now total c.read.new.self c.read.new.spent x) (sym e)
    (c.in_err-read.ensures.answer r t total h c.end-end.ensures)

pub returns-in_default-clause-answer : goal.returns-in_default-clause-answer
returns-in_default-clause-answer c = λ r t total h v s.
    let q = c.in_default.ensures in
    let l = q.0 in
    let late = at_end r t c.args.self.now c.end-end.result total h c.end-end.ensures (c.is_before.ensures.none c.if-is_before.false) in
    let given = text_ends r t c.args.self.now l c.end-end.result total h q.1 c.end-end.ensures late in
    (refl, given ∙ ap (λ ps. just (items ps)) (sym (c.finish.ensures l (q.2 ∙ q.1))))

pub returns-clause-answer : goal.returns-clause-answer
returns-clause-answer c = λ r t total h v s.
    c.end.ensures.answer r t total
    (read_to_end r t c.args.self.now _ c.in-Some.level c.end-end.result total h c.end-end.ensures
    (at_end r t c.args.self.now c.end-end.result total h c.end-end.ensures (c.is_before.ensures.none c.if-is_before.false)) c.in-Some.ensures refl refl) v s

pub returns-clause-gets_on : goal.returns-clause-gets_on
returns-clause-gets_on c =
    let before = ap (λ ls. most_steps (bytes_left c.args.self.now.reader) + steps_behind_all ls) c.in-Some.ensures in
    let now = steps_left c.end.new.self in
    let was = steps_left c.args.self.now in
    IfOk-weaker c.end.result (λ k. now < was) (GetsOn was now) (got_on was now)
    (subst (λ n. IfOk c.end.result (λ k. now < n)) (omega (arith, before)) c.end.ensures.gets_on)
