use Rattle.wt_text_edit_laws.proofs.Blocks.OwnNodes.{is_edit}
use Rattle.wt_text_edit_laws.proofs.pages_have_such_edits.Goals as goal

pub returns : goal.returns
returns c = is_edit
