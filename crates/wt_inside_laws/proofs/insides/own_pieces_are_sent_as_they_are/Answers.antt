use Rattle.wt_inside_laws.proofs.insides.own_pieces_are_sent_as_they_are.Goals as goal
use Rattle.wt_inside_laws.proofs.OwnPieces.{own_pieces_stay}

pub returns : goal.returns
returns c = own_pieces_stay
