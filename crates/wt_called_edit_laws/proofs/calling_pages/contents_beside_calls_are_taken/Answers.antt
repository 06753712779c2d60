use Rattle.wt_called_edit_laws.proofs.CallingTaken.{contents_taken}
use Rattle.wt_called_edit_laws.proofs.calling_pages.contents_beside_calls_are_taken.Goals as goal

pub returns : goal.returns
returns c = contents_taken
