use Rattle.wt_inline.specs.Grown.{growth}
use Rattle.wt_inline.proofs.Trees.{pieces_step}
use Rattle.wt_inline.proofs.children.Children.with_pieces.Goals as goal

pub loop-piece-preserved : goal.loop-piece-preserved
loop-piece-preserved c = pieces_step (growth c.args.self) (growth c.loop-piece.children)
    (growth c.in_ok-children.children) c.args.loose c.args.pieces.now c.loop-piece.piece-index c.piece-item.result
    c.loop-piece-test.true c.piece-item.is c.loop-piece.invariant c.in_ok-children.ensures
