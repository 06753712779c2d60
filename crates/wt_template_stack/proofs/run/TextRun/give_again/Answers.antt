use Rattle.std.proofs.Common.{◌≡◌, ◌+◌, ◌∙◌, Err, ap, min, rules, subst, sym}
use Rattle.std.specs.Prelude.{nat_lt}
use Rattle.wt_expand.specs.Work.{most_cost}
use Rattle.wt_template_stack.specs.Runs.{AnswersGoing}
use Rattle.wt_template_stack.proofs.AgainLaws.{again_refused, again_spent, going_then}
use Rattle.wt_template_stack.proofs.ChoiceSteps.{again_ends, done_again}
use Rattle.wt_template_stack.proofs.run.TextRun.give_again.Goals as goal

pub returns-clause-answer : goal.returns-clause-answer
returns-clause-answer c = λ r t total h s.
    let spent = c.args.spent.now in
    let run = c.args.self.now in
    let a = done_again r t run c.args.call c.args.at_start c.args.before c.args.out total h in
    going_then r t spent c.charge.new.spent c.end_given.new.spent total a.left c.end_given.new.self c.end_given.result s
    (again_spent spent c.args.before c.charge.new.spent total a.left h.done s h.last a.does
    (c.in_ok-charge.ensures.large ∙ ap (λ k. nat_lt most_cost (spent + k)) c.saturating_sub.ensures)
    (c.in_ok-charge.ensures.spent ∙ ap (λ k. min (spent + k) 18446744073709551615) c.saturating_sub.ensures))
    (c.end_given.ensures.answer r t a.left a.ended)

pub returns-in_err-charge-clause-answer : goal.returns-in_err-charge-clause-answer
returns-in_err-charge-clause-answer c = λ r t total h s.
    let spent = c.args.spent.now in
    let run = c.args.self.now in
    let e = again_ends r t run c.args.call c.args.at_start c.args.before c.args.out total h in
    let is : c.from_residual.result ≡ Err c.in_err-charge.field-0.0 = search rules in
    subst (λ x. AnswersGoing r t spent total run c.charge.new.spent x) (sym is)
    (again_refused spent c.args.before e.count total h.done e.rest c.in_err-charge.field-0.0 s h.last e.work_is
    (c.in_err-charge.ensures.large ∙ ap (λ k. nat_lt most_cost (spent + k)) c.saturating_sub.ensures)
    c.in_err-charge.ensures.refusal)
