use Rattle.wt_program.proofs.WorkedCall.{edit_writes, selser_writes}
use Rattle.wt_program.proofs.sent_html.worked_edit_is_written.Goals as goal

pub returns-clause-edit : goal.returns-clause-edit
returns-clause-edit c = edit_writes

pub returns-clause-selser : goal.returns-clause-selser
returns-clause-selser c = selser_writes
