use Rattle.wt_called_edit_laws.proofs.Cells.CallingFrames.{calling_stand, calling_again, content_in, among_calling}
use Rattle.wt_called_edit_laws.proofs.blocks_with_calls_stand_at_their_places.Goals as goal

pub returns-clause-stand : goal.returns-clause-stand
returns-clause-stand c = calling_stand

pub returns-clause-again : goal.returns-clause-again
returns-clause-again c = calling_again

pub returns-clause-content : goal.returns-clause-content
returns-clause-content c = content_in

pub returns-clause-calm : goal.returns-clause-calm
returns-clause-calm c = among_calling
