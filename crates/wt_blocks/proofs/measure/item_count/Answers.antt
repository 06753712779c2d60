use Rattle.std.proofs.Common.{arith, length, ◌<◌, ◌^◌}
use Rattle.wt_blocks.proofs.Measures.{count_fits}
use Rattle.wt_blocks.proofs.measure.item_count.Goals as goal

pub overflow_add-count : goal.overflow_add-count
overflow_add-count c =
    let short : length c.args.pieces.now < 2 ^ 63 = omega (arith, c.well_formed) in
    let fits = count_fits c.args.pieces.now c.loop-piece.piece-index c.loop-piece.count c.item_count-count.result
    c.piece-item.result c.loop-piece-test.true c.piece-item.is c.loop-piece.invariant c.item_count-count.ensures short c.requires in
    omega (arith, fits)
