use Rattle.std.proofs.Common.{◌≡◌, Err, ap, rules, subst, sym, ◌∙◌, arith}
use Rattle.wt_span.specs.Items.{items}
use Rattle.wt_expand.specs.Targets.{title_of_target}
use Rattle.wt_template_stack.specs.Runs.{AnswersTurn}
use Rattle.wt_template_stack.proofs.CallSteps.{page_begins}
use Rattle.wt_template_stack.proofs.PartSteps.{part_taken_behind}
use Rattle.wt_template_stack.proofs.RestLaws.{begun_spent, begun_refused, spends_none}
use Rattle.wt_template_stack.proofs.run.TextRun.end_target.Goals as goal

pub returns-in_default-clause-answer : goal.returns-in_default-clause-answer
returns-in_default-clause-answer c = λ r t total h. (
  total,
  spends_none c.args.spent.now total,
  c.in_ok-begin_text.ensures.answer r t total c.args.at_start h
      (ap (λ ps. title_of_target (items ps)) (sym c.as_slice.ensures) ∙ sym c.in_ok-title.ensures ∙ c.in_default.is),
)

pub returns-in_err-charge-clause-answer : goal.returns-in_err-charge-clause-answer
returns-in_err-charge-clause-answer c = λ r t total h.
    let named = ap (λ ps. title_of_target (items ps)) (sym c.as_slice.ensures) ∙ sym c.in_ok-title.ensures ∙ c.in-Some.is in
    let z = page_begins r t c.args.self.now c.args.call c.args.at_start c.args.out c.in-Some.title total h named in
    let e : c.from_residual-in_err-charge.result ≡ Err c.in_err-charge.field-0.0 = search rules in
    subst (λ x. AnswersTurn r t c.args.spent.now total c.args.self.now c.charge.new.spent x) (sym e)
    (begun_refused c.args.spent.now total z.0 c.in_err-charge.field-0.0 z.1 c.in_err-charge.ensures.large c.in_err-charge.ensures.refusal)

pub returns-clause-answer : goal.returns-clause-answer
returns-clause-answer c = λ r t total h.
    let named = ap (λ ps. title_of_target (items ps)) (sym c.as_slice.ensures) ∙ sym c.in_ok-title.ensures ∙ c.in-Some.is in
    let z = page_begins r t c.args.self.now c.args.call c.args.at_start c.args.out c.in-Some.title total h named in
    let first = z.2 c.new-pending.result (record {
      call = c.new-pending.ensures.call;
      at_start = c.new-pending.ensures.at_start;
      title_is = c.new-pending.ensures.title;
      part = c.new-pending.ensures.part;
      number = c.new-pending.ensures.number;
      values = c.new-pending.ensures.values;
    }) in
    part_taken_behind r t c.args.spent.now c.charge.new.spent total z.0 c.next_part.new.self c.in_ok-turn.turn
    (begun_spent c.args.spent.now c.charge.new.spent total z.0 z.1 c.in_ok-charge.ensures.large c.in_ok-charge.ensures.spent)
    (c.in_ok-turn.ensures.answer r t z.0 first)

pub returns-in_default-clause-gets_on : goal.returns-in_default-clause-gets_on
returns-in_default-clause-gets_on c = omega (arith, c.in_ok-begin_text.ensures.gets_on)

pub returns-clause-gets_on : goal.returns-clause-gets_on
returns-clause-gets_on c = omega (arith, c.in_ok-turn.ensures.gets_on)
