use Rattle.std.proofs.Common.{◌≡◌, ◌∙◌, Some, Err, drop, ap, refl, rules, subst, sym}
use Rattle.wt_span.specs.Functions.{function_of}
use Rattle.wt_span.specs.Slice.{bytes_of}
use Rattle.wt_template_stack.specs.Runs.{AnswersGoing}
use Rattle.wt_template_stack.specs.Stacks.{stack}
use Rattle.wt_template_stack.proofs.ChoiceSteps.{choice_begins, choice_work_left}
use Rattle.wt_template_stack.proofs.RestLaws.{begun_spent, begun_refused, spends_none}
use Rattle.wt_template_stack.proofs.MeasureLaws.{level_begun, choice_few}
use Rattle.wt_template_stack.proofs.run.TextRun.begin_function.Goals as goal

pub returns-in_default-clause-answer : goal.returns-in_default-clause-answer
returns-in_default-clause-answer c = λ r t total h k e f. (
  total,
  spends_none c.args.spent.now total,
  c.in_ok-push_function.ensures.answer r t total h k e f
      (ap (λ bs. function_of (drop 2 bs)) (sym (c.as_bytes.ensures.value ∙ c.as_str.ensures)) ∙ sym c.function_named.ensures ∙ c.in_default.is),
)

pub returns-in_err-charge-clause-answer : goal.returns-in_err-charge-clause-answer
returns-in_err-charge-clause-answer c = λ r t total h k e f.
    let named : c.function_named.result ≡ Some (c.in-Some.function, c.in-Some.part_0) = cc in
    let w = ap (λ bs. function_of (drop 2 bs)) (sym (c.as_bytes.ensures.value ∙ c.as_str.ensures)) ∙ sym c.function_named.ensures ∙ named in
    let z = choice_work_left r t c.args.self.now (stack c.args.self.now.levels) c.args.call total (bytes_of c.args.source)
    c.in-Some.function c.in-Some.part_0 h k e f w in
    let is : c.from_residual-in_err-charge.result ≡ Err c.in_err-charge.field-0.0 = search rules in
    subst (λ x. AnswersGoing r t c.args.spent.now total c.args.self.now c.charge.new.spent x) (sym is)
    (begun_refused c.args.spent.now total z.0 c.in_err-charge.field-0.0 z.1 c.in_err-charge.ensures.large c.in_err-charge.ensures.refusal)

pub returns-clause-answer : goal.returns-clause-answer
returns-clause-answer c = λ r t total h k e f.
    let named : c.function_named.result ≡ Some (c.in-Some.function, c.in-Some.part_0) = cc in
    let w = ap (λ bs. function_of (drop 2 bs)) (sym (c.as_bytes.ensures.value ∙ c.as_str.ensures)) ∙ sym c.function_named.ensures ∙ named in
    let z = choice_begins r t c.args.self.now (stack c.args.self.now.levels) c.args.call total (bytes_of c.args.source)
    c.in-Some.function c.in-Some.part_0 c.first_part-target.result h k e f w c.first_part-target.ensures in (
      z.0,
      begun_spent c.args.spent.now c.charge.new.spent total z.0 z.1 c.in_ok-charge.ensures.large c.in_ok-charge.ensures.spent,
      c.in_ok-begin_within.ensures.answer r t z.0 (z.2 _ c.in_ok-choosing.choosing c.in_ok-choosing.ensures refl refl refl),
    )

pub returns-clause-gets_on : goal.returns-clause-gets_on
returns-clause-gets_on c =
    let z = c.in_ok-begin_within.ensures.gets_on in
    level_begun _ _ _ _ _ z.0 z.1 c.requires (choice_few _ _ c.in_ok-choosing.ensures.begun_is)
