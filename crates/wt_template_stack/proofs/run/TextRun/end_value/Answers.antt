use Rattle.wt_template_stack.proofs.PartSteps.{value_ends}
use Rattle.std.proofs.Common.{arith}
use Rattle.wt_template_stack.proofs.run.TextRun.end_value.Goals as goal

pub returns-clause-answer : goal.returns-clause-answer
returns-clause-answer c = λ r t total h.
    c.in_ok-turn.ensures.answer r t total
    (value_ends r t c.args.self.now c.args.pending c.put_value.new.handed c.args.name c.args.out total h c.in_ok-put_value.ensures.values
    c.in_ok-put_value.ensures.number (omega arith))

pub returns-clause-gets_on : goal.returns-clause-gets_on
returns-clause-gets_on c = omega (arith, c.in_ok-turn.ensures.gets_on)
