use Rattle.wt_called_edit_laws.proofs.OwnEdits.{own_edits}
use Rattle.wt_called_edit_laws.proofs.any_texts_may_be_typed_at_paths.Goals as goal

pub returns : goal.returns
returns c t ss fs = own_edits t ss fs
