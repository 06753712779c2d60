use Rattle.std.proofs.Common.{sym, ◌∙◌}
use Rattle.wt_tables.proofs.CellReads.{texts_go}
use Rattle.wt_tables.proofs.cell.are_texts.Goals as goal

pub loop-piece-preserved : goal.loop-piece-preserved
loop-piece-preserved c =
    texts_go c.loop-piece.piece-index c.args.pieces.now c.piece-item.result _ c.loop-piece-test.true c.piece-item.is
    (sym c.is_text.ensures ∙ c.if-not-is_text.false) c.loop-piece.invariant
