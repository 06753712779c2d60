use Rattle.std.proofs.Common.{ap, ◌∙◌, ◌∷◌, ◌++◌, ◌-◌, arith}
use Rattle.std.specs.Prelude.{slice_range}
use Rattle.wt_span.specs.Items.{items, items_of}
use Rattle.wt_span.specs.Slice.{bytes_of}
use Rattle.wt_expand.specs.Expansion.{chars}
use Rattle.wt_template_stack.specs.Stacks.{stack}
use Rattle.wt_template_stack.specs.declared.level.Level.{Level}
use Rattle.wt_template_stack.specs.declared.level.Task.TheVariants as task
use Rattle.wt_template_stack.proofs.CallSteps.{front_there, text_begins}
use Rattle.wt_template_stack.proofs.StepLaws.{holds}
use Rattle.wt_template_stack.specs.Measures.{steps_behind_all}
use Rattle.wt_template_stack.proofs.run.TextRun.begin_text.Goals as goal

pub returns-clause-answer : goal.returns-clause-answer
returns-clause-answer c = λ r t total s h none.
    let part = c.first_part-target.result in
    let front = bytes_of c.slice-front.result in
    let end = c.saturating_sub-end.result in
    let level : Level = record { end = end; out = c.push_all.new.out; task = task.Text c.args.call } in
    let pieces = c.in_ok-push_all.ensures
    ∙ ap (λ o. o ++ items c.as_slice.result.now)
    (c.in_ok-push_piece.ensures ∙ ap (λ o. items o ++ items_of c.piece_of.result) c.new-all.ensures ∙ c.piece_of.ensures.items)
    ∙ ap (λ o. chars front ++ items o) c.as_slice.ensures in
    holds r t _ h.place h.at_start (level ∷ stack c.args.self.now.levels) total h.running.reading h.running.mode_is c.in_ok-push.ensures
    (text_begins r t c.args.self.now c.args.call s c.args.out c.push_all.new.out part front end total h none c.first_part-target.ensures
    (c.slice-front.ensures.bytes (front_there r t c.args.self.now c.args.call s c.args.out part total h c.first_part-target.ensures) ∙ ap (λ xs. slice_range xs c.args.call.at.start part.at.start) h.running.reading.read.text_is) pieces
    (c.saturating_sub-end.ensures ∙ ap (λ k. c.args.call.at.end - k) c.saturating_sub-braces.ensures))

pub returns-clause-gets_on : goal.returns-clause-gets_on
returns-clause-gets_on c = omega (arith, ap steps_behind_all c.in_ok-push.ensures)
