use Rattle.wt_inside_laws.proofs.insides.retyped_blocks_are_pieces.Goals as goal
use Rattle.wt_inside_laws.proofs.RetypedPieces.{retyped_pieces}

pub returns : goal.returns
returns c = retyped_pieces
