use Rattle.wt_program.proofs.PlacedCalls.{calls_take_in_lines, calls_type_in_lines}
use Rattle.wt_program.proofs.laws.calls_take_contents_in_lines.Goals as goal

pub returns-clause-contents : goal.returns-clause-contents
returns-clause-contents c = calls_take_in_lines

pub returns-clause-texts : goal.returns-clause-texts
returns-clause-texts c = calls_type_in_lines
