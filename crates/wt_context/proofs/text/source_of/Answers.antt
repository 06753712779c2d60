use Rattle.wt_context.proofs.Texts.{source_step}
use Rattle.wt_context.proofs.text.source_of.Goals as goal

pub loop-piece-preserved : goal.loop-piece-preserved
loop-piece-preserved c = source_step c.args.pieces.now c.loop-piece.piece-index c.piece-item.result c.loop-piece.source c.push_str.new.self
    c.as_str.result.now c.loop-piece-test.true c.piece-item.is c.loop-piece.invariant c.in_ok-push_str.ensures.ok c.as_str.ensures
