use Rattle.wt_called_edit_laws.proofs.Cells.CalledFrames.{contents_among_calls}
use Rattle.wt_called_edit_laws.proofs.pages_without_calls_are_among_these.Goals as goal

pub returns : goal.returns
returns c = contents_among_calls
