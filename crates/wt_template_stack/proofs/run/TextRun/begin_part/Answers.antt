use Rattle.wt_template_stack.proofs.PartSteps.{name_begins, value_begins}
use Rattle.wt_template_stack.proofs.MeasureLaws.{part_begun}
use Rattle.wt_template_stack.proofs.run.TextRun.begin_part.Goals as goal

pub returns-in-Some-clause-answer : goal.returns-in-Some-clause-answer
returns-in-Some-clause-answer c = λ r t total h e.
    c.in_ok-begin_level.ensures.answer r t total (name_begins r t c.args.self.now c.args.pending c.args.part c.in-Some.equals total h e c.in-Some.is)

pub returns-clause-answer : goal.returns-clause-answer
returns-clause-answer c = λ r t total h e.
    c.in_ok-begin_level-2.ensures.answer r t total (value_begins r t c.args.self.now c.args.pending c.args.part total h e c.in_default.is)

pub returns-in-Some-clause-gets_on : goal.returns-in-Some-clause-gets_on
returns-in-Some-clause-gets_on c =
    let z = c.in_ok-begin_level.ensures.gets_on in
    part_begun _ _ _ _ z.0 z.1

pub returns-clause-gets_on : goal.returns-clause-gets_on
returns-clause-gets_on c =
    let z = c.in_ok-begin_level-2.ensures.gets_on in
    part_begun _ _ _ _ z.0 z.1
