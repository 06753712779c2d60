use Rattle.wt_called_edit_laws.proofs.HoldersSent.{blocks_free}
use Rattle.wt_called_edit_laws.proofs.edited_blocks_are_outside_groups.Goals as goal

pub returns : goal.returns
returns c fs o b es = blocks_free fs o b es
