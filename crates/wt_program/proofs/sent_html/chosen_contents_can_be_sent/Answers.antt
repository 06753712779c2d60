use Rattle.wt_program.proofs.SentCalls.{any_can_be_sent}
use Rattle.wt_program.proofs.sent_html.chosen_contents_can_be_sent.Goals as goal

pub returns : goal.returns
returns c = any_can_be_sent
