use Rattle.std.proofs.Common.{◌≡◌, Err, length, rules, subst, sym}
use Rattle.wt_template_stack.specs.Runs.{AnswersGoing}
use Rattle.wt_span.specs.Items.{items, sources}
use Rattle.wt_template_stack.proofs.CallSteps.{call_ends}
use Rattle.wt_template_stack.proofs.RestLaws.{ended_spent, ended_refused}
use Rattle.wt_template_stack.proofs.run.TextRun.give.Goals as goal

pub returns-clause-answer : goal.returns-clause-answer
returns-clause-answer c = λ r t total h.
    let z = call_ends r t c.args.self.now c.args.to (items c.args.out.now) total h in (
      z.0,
      ended_spent c.args.spent.now (length (sources (items c.args.out.now))) c.byte_count.result c.charge.new.spent total z.0 z.1 c.in_ok-charge.ensures.large
          c.byte_count.ensures c.in_ok-charge.ensures.spent,
      c.in_ok-give_free.ensures.answer r t z.0 z.2,
    )

pub returns-in_err-charge-clause-answer : goal.returns-in_err-charge-clause-answer
returns-in_err-charge-clause-answer c = λ r t total h.
    let z = call_ends r t c.args.self.now c.args.to (items c.args.out.now) total h in
    let e : c.from_residual.result ≡ Err c.in_err-charge.field-0.0 = search rules in
    subst (λ x. AnswersGoing r t c.args.spent.now total c.args.self.now c.charge.new.spent x) (sym e)
    (ended_refused c.args.spent.now (length (sources (items c.args.out.now))) c.byte_count.result total z.0 c.in_err-charge.field-0.0 z.1
    c.in_err-charge.ensures.large c.byte_count.ensures c.in_err-charge.ensures.refusal)
