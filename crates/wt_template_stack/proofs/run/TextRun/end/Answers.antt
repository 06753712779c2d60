use Rattle.std.proofs.Common.{◌≡◌, Err, ap, drop, sym, subst, refl, rules, ◌∙◌}
use Rattle.wt_template_stack.specs.Runs.{AnswersTurn}
use Rattle.wt_span.specs.declared.form.Piece.{Piece}
use Rattle.wt_span.specs.Items.{items}
use Rattle.wt_expand.specs.Expansion.{just}
use Rattle.std.specs.Prelude.{List}
use Rattle.wt_transclusion.specs.Ends.{BeginsAscii}
use Rattle.wt_template_stack.specs.Rests.{ended_with}
use Rattle.wt_template_stack.specs.Runs.{HasEnded, Returns}
use Rattle.wt_template_stack.specs.declared.level.Task.{Task}
use Rattle.wt_template_stack.proofs.CallSteps.{default_returns}
use Rattle.wt_template_stack.proofs.ChoiceSteps.{first_ends}
use Rattle.wt_template_stack.proofs.PartSteps.{part_taken}
use Rattle.wt_template_stack.proofs.RestLaws.{spends_none}
use Rattle.wt_template_stack.proofs.run.TextRun.end.Goals as goal

pub returns-in-Whole-clause-answer : goal.returns-in-Whole-clause-answer
returns-in-Whole-clause-answer c = λ r t total h v s.
    let w = subst (λ (k : Task). HasEnded r t c.args.self.now k c.args.out total) c.in-Whole.is h in
    (refl, w.ends.1)

pub returns-in-Argument-clause-answer : goal.returns-in-Argument-clause-answer
returns-in-Argument-clause-answer c = λ r t total h v s.
    let w = subst (λ (k : Task). HasEnded r t c.args.self.now k c.args.out total) c.in-Argument.is h in
    c.in_ok-end_argument-in-Argument.ensures.answer r t total w v

pub returns-in_err-end_argument-in-Argument-clause-answer : goal.returns-in_err-end_argument-in-Argument-clause-answer
returns-in_err-end_argument-in-Argument-clause-answer c = λ r t total h v s.
    let w = subst (λ (k : Task). HasEnded r t c.args.self.now k c.args.out total) c.in-Argument.is h in
    let e : c.from_residual.result ≡ Err c.in_err-end_argument-in-Argument.field-0.0 = search rules in
    subst (λ x. AnswersTurn r t c.args.spent.now total c.end_argument.new.self c.end_argument.new.spent x) (sym e)
    (c.in_err-end_argument-in-Argument.ensures.answer r t total w v)

pub returns-in-Default-clause-answer : goal.returns-in-Default-clause-answer
returns-in-Default-clause-answer c = λ r t total h v s.
    let w = subst (λ (k : Task). HasEnded r t c.args.self.now k c.args.out total) c.in-Default.is h in
    c.in_ok-give-in-Default.ensures.answer r t total
    (subst (λ (ps : List Piece). Returns r t c.args.self.now c.in-Default.call.at.end (ended_with (just (items ps))) total) (sym c.as_slice.ensures)
    (default_returns r t c.args.self.now c.in-Default.call c.args.out total w))

pub returns-in_err-give-in-Default-clause-answer : goal.returns-in_err-give-in-Default-clause-answer
returns-in_err-give-in-Default-clause-answer c = λ r t total h v s.
    let w = subst (λ (k : Task). HasEnded r t c.args.self.now k c.args.out total) c.in-Default.is h in
    let e : c.from_residual-in_err-give-in-Default.result ≡ Err c.in_err-give-in-Default.field-0.0 = search rules in
    subst (λ x. AnswersTurn r t c.args.spent.now total c.give.new.self c.give.new.spent x) (sym e)
    (c.in_err-give-in-Default.ensures.answer r t total
    (subst (λ (ps : List Piece). Returns r t c.args.self.now c.in-Default.call.at.end (ended_with (just (items ps))) total) (sym c.as_slice.ensures)
    (default_returns r t c.args.self.now c.in-Default.call c.args.out total w)))

pub returns-in-Target-clause-answer : goal.returns-in-Target-clause-answer
returns-in-Target-clause-answer c = λ r t total h v s.
    let w = subst (λ (k : Task). HasEnded r t c.args.self.now k c.args.out total) c.in-Target.is h in
    c.end_target.ensures.answer r t total w

pub returns-in-Name-clause-answer : goal.returns-in-Name-clause-answer
returns-in-Name-clause-answer c = λ r t total h v s.
    let w = subst (λ (k : Task). HasEnded r t c.args.self.now k c.args.out total) c.in-Name.is h in
    (total, spends_none c.args.spent.now total, c.in_ok-end_name-in-Name.ensures.answer r t total w)

pub returns-in-Value-clause-answer : goal.returns-in-Value-clause-answer
returns-in-Value-clause-answer c = λ r t total h v s.
    let w = subst (λ (k : Task). HasEnded r t c.args.self.now k c.args.out total) c.in-Value.is h in
    part_taken r t c.args.spent.now total _ c.in_ok-turn-in-Value.turn (c.in_ok-turn-in-Value.ensures.answer r t total w)

pub returns-clause-answer : goal.returns-clause-answer
returns-clause-answer c = λ r t total h v s.
    let w = subst (λ (k : Task). HasEnded r t c.args.self.now k c.args.out total) c.in-Text.is h in
    (total, spends_none c.args.spent.now total, c.in_ok-end_text-in-Text.ensures.answer r t total w)

pub returns-in-First-clause-answer : goal.returns-in-First-clause-answer
returns-in-First-clause-answer c = λ r t total h v s.
    let w = subst (λ (k : Task). HasEnded r t c.args.self.now k c.args.out total) c.in-First.is h in
    c.in_ok-end_told-in-First.ensures.answer r t total
    (first_ends r t c.args.self.now c.in-First.choosing c.in-First.part_0 c.args.out c.in_ok-out-in-First.out total w
    (λ ascii. c.in_ok-out-in-First.ensures (subst (λ (ps : List Piece). BeginsAscii c.in-First.part_0 (items ps)) (sym c.as_slice-in-First.ensures) ascii)
    ∙ ap (λ ps. drop c.in-First.part_0 (items ps)) c.as_slice-in-First.ensures)) s

pub returns-in_err-end_told-in-First-clause-answer : goal.returns-in_err-end_told-in-First-clause-answer
returns-in_err-end_told-in-First-clause-answer c = λ r t total h v s.
    let w = subst (λ (k : Task). HasEnded r t c.args.self.now k c.args.out total) c.in-First.is h in
    let e : c.from_residual-in_err-end_told-in-First.result ≡ Err c.in_err-end_told-in-First.field-0.0 = search rules in
    subst (λ x. AnswersTurn r t c.args.spent.now total c.end_told.new.self c.end_told.new.spent x) (sym e)
    (c.in_err-end_told-in-First.ensures.answer r t total
    (first_ends r t c.args.self.now c.in-First.choosing c.in-First.part_0 c.args.out c.in_ok-out-in-First.out total w
    (λ ascii. c.in_ok-out-in-First.ensures (subst (λ (ps : List Piece). BeginsAscii c.in-First.part_0 (items ps)) (sym c.as_slice-in-First.ensures) ascii)
    ∙ ap (λ ps. drop c.in-First.part_0 (items ps)) c.as_slice-in-First.ensures)) s)

pub returns-in-Told-clause-answer : goal.returns-in-Told-clause-answer
returns-in-Told-clause-answer c = λ r t total h v s.
    let w = subst (λ (k : Task). HasEnded r t c.args.self.now k c.args.out total) c.in-Told.is h in
    c.in_ok-end_told-in-Told.ensures.answer r t total w s

pub returns-in_err-end_told-in-Told-clause-answer : goal.returns-in_err-end_told-in-Told-clause-answer
returns-in_err-end_told-in-Told-clause-answer c = λ r t total h v s.
    let w = subst (λ (k : Task). HasEnded r t c.args.self.now k c.args.out total) c.in-Told.is h in
    let e : c.from_residual-in_err-end_told-in-Told.result ≡ Err c.in_err-end_told-in-Told.field-0.0 = search rules in
    subst (λ x. AnswersTurn r t c.args.spent.now total c.end_told-in-Told.new.self c.end_told-in-Told.new.spent x) (sym e)
    (c.in_err-end_told-in-Told.ensures.answer r t total w s)

pub returns-in-Given-clause-answer : goal.returns-in-Given-clause-answer
returns-in-Given-clause-answer c = λ r t total h v s.
    let w = subst (λ (k : Task). HasEnded r t c.args.self.now k c.args.out total) c.in-Given.is h in
    c.in_ok-end_given-in-Given.ensures.answer r t total w

pub returns-in_err-end_given-in-Given-clause-answer : goal.returns-in_err-end_given-in-Given-clause-answer
returns-in_err-end_given-in-Given-clause-answer c = λ r t total h v s.
    let w = subst (λ (k : Task). HasEnded r t c.args.self.now k c.args.out total) c.in-Given.is h in
    let e : c.from_residual-in_err-end_given-in-Given.result ≡ Err c.in_err-end_given-in-Given.field-0.0 = search rules in
    subst (λ x. AnswersTurn r t c.args.spent.now total c.end_given.new.self c.end_given.new.spent x) (sym e)
    (c.in_err-end_given-in-Given.ensures.answer r t total w)
