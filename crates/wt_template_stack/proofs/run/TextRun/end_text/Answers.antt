use Rattle.std.proofs.Common.{ap, ◌∙◌, ◌++◌}
use Rattle.wt_span.specs.Items.{items}
use Rattle.wt_span.specs.Slice.{bytes_of}
use Rattle.wt_template_stack.proofs.CallSteps.{back_there, text_back}
use Rattle.wt_template_stack.proofs.run.TextRun.end_text.Goals as goal

pub returns-clause-answer : goal.returns-clause-answer
returns-clause-answer c = λ r t total h.
    c.in_ok-give_free.ensures.answer r t total
    (text_back r t c.args.self.now c.args.call c.args.out c.push_piece.new.out c.as_slice.result.now
    (bytes_of c.slice-back.result) total h
    (c.slice-back.ensures.bytes (back_there r t c.args.self.now c.args.call c.args.out total h)) (c.in_ok-push_piece.ensures ∙ ap (λ o. items c.args.out ++ o) c.piece_of.ensures.items) c.as_slice.ensures)
