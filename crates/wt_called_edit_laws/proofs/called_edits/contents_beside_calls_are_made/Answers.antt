use Rattle.wt_called_edit_laws.proofs.Beside.Making.{calls_make}
use Rattle.wt_called_edit_laws.proofs.called_edits.contents_beside_calls_are_made.Goals as goal

pub returns : goal.returns
returns c = calls_make
