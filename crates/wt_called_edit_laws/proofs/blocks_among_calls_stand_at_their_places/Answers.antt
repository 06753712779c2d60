use Rattle.wt_called_edit_laws.proofs.Cells.CalledFrames.{stand_among, again_among}
use Rattle.wt_called_edit_laws.proofs.blocks_among_calls_stand_at_their_places.Goals as goal

pub returns-clause-stand : goal.returns-clause-stand
returns-clause-stand c = stand_among

pub returns-clause-again : goal.returns-clause-again
returns-clause-again c = again_among
