use Rattle.wt_context.proofs.Seeing.{seen_step}
use Rattle.wt_context.proofs.seen.Seen.with_pieces.Goals as goal

pub loop-piece-preserved : goal.loop-piece-preserved
loop-piece-preserved c = seen_step c.args.self c.loop-piece.seen c.with_piece-seen.result c.args.pieces.now c.loop-piece.piece-index c.piece-item.result
    c.loop-piece-test.true c.piece-item.is c.loop-piece.invariant c.with_piece-seen.ensures
