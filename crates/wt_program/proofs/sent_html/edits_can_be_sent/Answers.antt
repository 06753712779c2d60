use Rattle.wt_program.proofs.SentCalls.{can_be_sent}
use Rattle.wt_program.proofs.sent_html.edits_can_be_sent.Goals as goal

pub returns : goal.returns
returns c = can_be_sent
