use Rattle.wt_called_edit_laws.proofs.Written.InPieces.{pieces_anew}
use Rattle.wt_called_edit_laws.proofs.in_pieces.paragraphs_in_pieces_may_be_written_anew.Goals as goal

pub returns : goal.returns
returns c = pieces_anew
