use Rattle.std.proofs.lemmas.Option.{slice_get-get_or}
use Rattle.wt_template_stack.proofs.PartSteps.{parts_end}
use Rattle.wt_template_stack.proofs.run.TextRun.next_part.Goals as goal

pub returns-then-pending-clause-answer : goal.returns-then-pending-clause-answer
returns-then-pending-clause-answer c = λ r t total h.
    c.in_ok-begin_part.ensures.answer r t total h (slice_get-get_or c.args.pending.call.parts.now c.args.pending.part c.index-pending-pending.result c.if-pending.true)

pub returns-clause-answer : goal.returns-clause-answer
returns-clause-answer c = λ r t total h. parts_end r t c.args.self.now c.args.pending total h c.if-pending.false
