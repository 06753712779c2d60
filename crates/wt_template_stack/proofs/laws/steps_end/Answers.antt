use Rattle.wt_template_stack.proofs.MeasureLaws.{steps_counted, steps_number}
use Rattle.wt_template_stack.proofs.laws.steps_end.Goals as goal

pub returns-clause-count : goal.returns-clause-count
returns-clause-count c = steps_counted

pub returns-clause-number : goal.returns-clause-number
returns-clause-number c = steps_number
