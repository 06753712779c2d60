use Rattle.wt_tiles.proofs.Pieces.{split_some, split_none}
use Rattle.wt_tiles.proofs.tile.Rest.split_first.Goals as goal

pub returns-in-Some-clause-sound : goal.returns-in-Some-clause-sound
returns-in-Some-clause-sound c = split_some c.args.self.first c.args.self.pieces.now c.in-Some.piece c.in-Some.is c.requires

pub returns-clause-sound : goal.returns-clause-sound
returns-clause-sound c = split_none c.args.self.first c.args.self.pieces.now c.in_ok-piece.pieces.now c.in_ok-piece.piece.now
    c.in_default.is c.in_ok-piece.ensures.cases.0 c.requires
