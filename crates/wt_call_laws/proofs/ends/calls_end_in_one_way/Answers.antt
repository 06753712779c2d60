use Rattle.wt_call_laws.proofs.Exclusions.{refused_apart, done_not_refused, done_not_out, done_not_err, refused_not_out, refused_not_err, out_not_err}
use Rattle.wt_call_laws.proofs.ends.calls_end_in_one_way.Goals as goal

pub returns-clause-refused : goal.returns-clause-refused
returns-clause-refused c = refused_apart

pub returns-clause-answer_or_line : goal.returns-clause-answer_or_line
returns-clause-answer_or_line c = done_not_refused

pub returns-clause-answer_or_fault : goal.returns-clause-answer_or_fault
returns-clause-answer_or_fault c = done_not_out

pub returns-clause-answer_or_no_line : goal.returns-clause-answer_or_no_line
returns-clause-answer_or_no_line c = done_not_err

pub returns-clause-line_or_fault : goal.returns-clause-line_or_fault
returns-clause-line_or_fault c = refused_not_out

pub returns-clause-line_or_none : goal.returns-clause-line_or_none
returns-clause-line_or_none c = refused_not_err

pub returns-clause-fault_or_no_line : goal.returns-clause-fault_or_no_line
returns-clause-fault_or_no_line c = out_not_err
