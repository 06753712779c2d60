use Rattle.wt_call_laws.proofs.Late.{one_of_two, of_edits}
use Rattle.wt_call_laws.proofs.refusals.late_refusals_are_of_edits.Goals as goal

pub returns-clause-either : goal.returns-clause-either
returns-clause-either c = one_of_two

pub returns-clause-status : goal.returns-clause-status
returns-clause-status c = of_edits
