use Rattle.std.proofs.Common.{◌≡◌, Err, refl, rules, subst, sym, arith}
use Rattle.wt_template_stack.specs.Runs.{AnswersGoing}
use Rattle.wt_template_stack.specs.Stacks.{stack}
use Rattle.wt_template_stack.proofs.RestLaws.{begun_spent, begun_refused}
use Rattle.wt_template_stack.proofs.StepLaws.{argument_begins, argument_work_left}
use Rattle.wt_template_stack.proofs.MeasureLaws.{level_begun}
use Rattle.wt_template_stack.proofs.run.TextRun.begin_argument.Goals as goal

pub returns-clause-answer : goal.returns-clause-answer
returns-clause-answer c = λ r t total h k.
    let z = argument_begins r t c.args.self.now (stack c.args.self.now.levels) c.args.call total c.first_part-name.result h k c.first_part-name.ensures in (
      z.0,
      begun_spent c.args.spent.now c.charge.new.spent total z.0 z.1 c.in_ok-charge.ensures.large c.in_ok-charge.ensures.spent,
      c.in_ok-begin_within.ensures.answer r t z.0 (z.2 c.args.self.now refl refl refl),
    )

pub returns-in_err-charge-clause-answer : goal.returns-in_err-charge-clause-answer
returns-in_err-charge-clause-answer c = λ r t total h k.
    let z = argument_work_left r t c.args.self.now (stack c.args.self.now.levels) c.args.call total h k in
    let e : c.from_residual.result ≡ Err c.in_err-charge.field-0.0 = search rules in
    subst (λ x. AnswersGoing r t c.args.spent.now total c.args.self.now c.charge.new.spent x) (sym e)
    (begun_refused c.args.spent.now total z.0 c.in_err-charge.field-0.0 z.1 c.in_err-charge.ensures.large c.in_err-charge.ensures.refusal)

pub returns-clause-gets_on : goal.returns-clause-gets_on
returns-clause-gets_on c =
    let z = c.in_ok-begin_within.ensures.gets_on in
    level_begun _ _ _ _ _ z.0 z.1 c.requires (omega arith)
