use Rattle.std.proofs.Common.{◌+◌, arith}
use Rattle.wt_annotated.proofs.PassPieces.{width_step, width_front}
use Rattle.wt_annotated.proofs.piece.width.Goals as goal

pub overflow_add-width : goal.overflow_add-width
overflow_add-width c =
    let ps = c.args.pieces.now in
    let at = c.loop-piece.piece-index in
    omega (
      arith,
      width_step ps at c.loop-piece.width c.text_width-width.result c.piece-item.result c.loop-piece-test.true
          c.piece-item.is c.loop-piece.invariant c.text_width-width.ensures,
      width_front ps (at + 1),
    )

pub loop-piece-preserved : goal.loop-piece-preserved
loop-piece-preserved c =
    width_step c.args.pieces.now c.loop-piece.piece-index c.loop-piece.width c.text_width-width.result c.piece-item.result
    c.loop-piece-test.true c.piece-item.is c.loop-piece.invariant c.text_width-width.ensures
