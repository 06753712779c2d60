-- What is sent beside calls and styles makes the new block.
use Rattle.wt_called_edit_laws.proofs.Styles.Making.{styles_make}
use Rattle.wt_called_edit_laws.proofs.called_edits.styles_beside_calls_are_made.Goals as goal

pub returns : goal.returns
returns c = styles_make
