use Rattle.std.proofs.Common.{[], subst, sym, arith}
use Rattle.wt_span.specs.Slice.{bytes_of}
use Rattle.wt_expand.specs.Expansion.{just}
use Rattle.wt_transclusion.specs.Cursors.{starts}
use Rattle.wt_template_stack.specs.Levels.{Resumes}
use Rattle.wt_template_stack.specs.Stacks.{stack}
use Rattle.wt_template_stack.proofs.Cuts.{cut_here}
use Rattle.wt_template_stack.proofs.StepLaws.{chunk_read}
use Rattle.wt_template_stack.proofs.MeasureLaws.{same_behind}
use Rattle.wt_template_stack.proofs.run.TextRun.read_chunk.Goals as goal

pub returns-clause-answer : goal.returns-clause-answer
returns-clause-answer c = λ r t total h.
    c.resume.ensures.answer r t total h.place h.at_start (record { reading = h.running.reading; mode_is = h.running.mode_is }) h.before
    (subst (λ ls. Resumes r t c.args.to (starts t c.args.to) (just []) ls total) (sym c.in_ok-give_some.ensures)
    (chunk_read r t c.args.self.now (stack c.args.self.now.levels) c.args.kind c.args.to total c.lexeme_piece.result (bytes_of c.slice-text.result) h
    c.lexeme_piece.ensures
    (c.slice-text.ensures.bytes (cut_here r.mode t c.args.self.now.reader h.place h.at_start c.args.to h.running.reading h.cut))))

pub returns-clause-gets_on : goal.returns-clause-gets_on
returns-clause-gets_on c = omega (arith, c.resume.ensures.later c.requires, same_behind _ _ _ c.in_ok-give_some.ensures)
