use Rattle.wt_annotated.proofs.PieceWalks.{found_here}
use Rattle.wt_annotated.proofs.seam.first_found.Goals as goal

pub returns-then-not-is_hollow : goal.returns-then-not-is_hollow
returns-then-not-is_hollow c =
    found_here c.args.pieces.now c.loop-piece.piece-index c.piece-item.result c.call_of.result c.is_hollow.result c.loop-piece-test.true c.piece-item.is
    c.is_hollow.ensures c.if-not-is_hollow.true c.call_of.ensures c.loop-piece.invariant
