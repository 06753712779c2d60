use Rattle.wt_called_edit_laws.proofs.PathsSend.{paths_send}
use Rattle.wt_called_edit_laws.proofs.edits_at_paths_are_sent_for_the_blocks.Goals as goal

pub returns : goal.returns
returns c fs o b es = paths_send fs o b es
