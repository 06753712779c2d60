use Rattle.wt_annotated.proofs.HeldPieces.{texts_step}
use Rattle.wt_annotated.proofs.held.listed_texts.Goals as goal

pub loop-piece-preserved : goal.loop-piece-preserved
loop-piece-preserved c =
    texts_step c.loop-piece.texts c.push.new.self c.args.pieces.now c.loop-piece.piece-index c.piece-item.result c.loop-piece-test.true c.piece-item.is
    c.loop-piece.invariant c.in_ok-push.ensures.ok
