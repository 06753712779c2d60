use Rattle.std.proofs.Common.{sym, subst, All}
use Rattle.std.proofs.lemmas.List.Elements.{All-push}
use Rattle.wt_span.specs.Origins.{IsSoundPiece}
use Rattle.wt_tiles.proofs.tile.take_piece.Goals as goal

pub returns-clause-sound_front : goal.returns-clause-sound_front
returns-clause-sound_front c =
    subst (All IsSoundPiece) (sym c.in_ok-push_tight-2.ensures.ok)
    (All-push IsSoundPiece c.args.taken.now c.cut_piece-cut.result.0 c.requires.sound_taken c.cut_piece-cut.ensures.sound_front)
