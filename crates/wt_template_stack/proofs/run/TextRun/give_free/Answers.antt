use Rattle.std.proofs.Common.{[], refl, subst, sym, arith}
use Rattle.wt_span.specs.Items.{items}
use Rattle.wt_expand.specs.Expansion.{just}
use Rattle.wt_transclusion.specs.Cursors.{starts}
use Rattle.wt_template_stack.specs.Levels.{Resumes}
use Rattle.wt_template_stack.specs.Stacks.{stack}
use Rattle.wt_template_stack.proofs.StepLaws.{pieces_given}
use Rattle.wt_template_stack.proofs.MeasureLaws.{same_behind}
use Rattle.wt_template_stack.proofs.run.TextRun.give_free.Goals as goal

pub returns-clause-answer : goal.returns-clause-answer
returns-clause-answer c = λ r t total h.
    let to = c.args.to in
    c.resume.ensures.answer r t total h.place h.at_start (record { reading = h.running.reading; mode_is = h.running.mode_is }) h.before
    (subst (λ ls. Resumes r t to (starts t to) (just []) ls total) (sym c.in_ok-give.ensures)
    (pieces_given r t to (starts t to) (stack c.args.self.now.levels) total (items c.args.out.now) c.args.out.now h.resumes refl))

pub returns-clause-gets_on : goal.returns-clause-gets_on
returns-clause-gets_on c = omega (arith, c.resume.ensures.gets_on, same_behind _ _ _ c.in_ok-give.ensures)
