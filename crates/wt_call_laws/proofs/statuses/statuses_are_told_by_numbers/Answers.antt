use Rattle.wt_call_laws.proofs.Codes.{apart, all_told, none_more, answered, others_fail}
use Rattle.wt_call_laws.proofs.statuses.statuses_are_told_by_numbers.Goals as goal

pub returns-clause-apart : goal.returns-clause-apart
returns-clause-apart c = apart

pub returns-clause-all : goal.returns-clause-all
returns-clause-all c = all_told

pub returns-clause-none : goal.returns-clause-none
returns-clause-none c = none_more

pub returns-clause-answers : goal.returns-clause-answers
returns-clause-answers c = answered

pub returns-clause-others : goal.returns-clause-others
returns-clause-others c = others_fail
