use Rattle.std.proofs.Common.{None, ◌∷◌, [], ◌∙◌, subst, sym, append-nil, arith}
use Rattle.wt_span.specs.declared.form.ItemForm.TheVariants as form
use Rattle.wt_span.specs.Items.{whole, items_of}
use Rattle.wt_span.specs.Slice.{bytes_of}
use Rattle.wt_expand.specs.Expansion.{just}
use Rattle.wt_transclusion.specs.Cursors.{starts}
use Rattle.wt_template_stack.specs.Levels.{Resumes}
use Rattle.wt_template_stack.specs.Stacks.{stack}
use Rattle.wt_template_stack.proofs.StepLaws.{call_before, function_begins, pieces_given}
use Rattle.wt_template_stack.proofs.MeasureLaws.{same_behind}
use Rattle.wt_template_stack.proofs.run.TextRun.push_function.Goals as goal

pub returns-clause-answer : goal.returns-clause-answer
returns-clause-answer c = λ r t total h k e f none.
    let to = c.args.call.at.end in
    c.resume.ensures.answer r t total h.call.at h.at_start (record { reading = h.running.reading; mode_is = h.running.mode_is })
    (call_before r.mode t c.args.call h.call)
    (subst (λ ls. Resumes r t to (starts t to) (just []) ls total) (sym c.in_ok-give_one.ensures)
    (pieces_given r t to (starts t to) (stack c.args.self.now.levels) total (whole form.Function None (bytes_of c.args.source) ∷ [])
    (c.piece_of.result ∷ []) (function_begins r t c.args.self.now (stack c.args.self.now.levels) c.args.call total (bytes_of c.args.source) h k e f none)
    (append-nil (items_of c.piece_of.result) ∙ c.piece_of.ensures.items)))

pub returns-clause-gets_on : goal.returns-clause-gets_on
returns-clause-gets_on c = omega (arith, c.resume.ensures.later c.requires, same_behind _ _ _ c.in_ok-give_one.ensures)
