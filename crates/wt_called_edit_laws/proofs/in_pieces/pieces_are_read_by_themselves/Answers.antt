use Rattle.wt_called_edit_laws.proofs.Written.ReadApart.{apart_pieces}
use Rattle.wt_called_edit_laws.proofs.in_pieces.pieces_are_read_by_themselves.Goals as goal

pub returns : goal.returns
returns c = apart_pieces
