use Rattle.std.proofs.Common.{arith}
use Rattle.std.proofs.lemmas.Result.{IfOk-weaker}
use Rattle.wt_context.specs.Tokens.{segments_of}
use Rattle.wt_context.specs.Loosened.{loosened}
use Rattle.wt_context.proofs.Loosening.{piece_step, piece_done}
use Rattle.wt_context.proofs.loose.with_loose.Goals as goal

pub loop-piece-preserved : goal.loop-piece-preserved
loop-piece-preserved c = piece_step (segments_of c.args.tokens) (loosened c.loop-piece.now)
    (loosened c.in_ok-now.now) c.args.pieces.now c.loop-piece.piece-index c.piece-item.result c.loop-piece-test.true c.piece-item.is c.in_ok-now.ensures
    c.loop-piece.invariant

pub returns : goal.returns
returns c =
    IfOk-weaker c.closed.result _ _
    (λ ts e. piece_done (segments_of c.args.tokens) (segments_of ts) (loosened c.loop-piece.now) c.args.pieces.now c.loop-piece.piece-index
    (omega (arith, c.loop-piece-test.false)) e c.loop-piece.invariant)
    c.closed.ensures
