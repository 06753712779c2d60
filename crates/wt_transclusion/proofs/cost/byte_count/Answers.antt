use Rattle.std.proofs.Common.{◌+◌, ◌-◌, ◌^◌, length, ap, ◌∙◌}
use Rattle.std.specs.Prelude.{min}
use Rattle.wt_transclusion.proofs.Counts.{count_more}
use Rattle.wt_transclusion.proofs.cost.byte_count.Goals as goal

pub loop-piece-preserved : goal.loop-piece-preserved
loop-piece-preserved c =
    let l = c.loop-piece in
    count_more c.args.pieces.now l.piece-index c.piece-item.result l.count c.saturating_add-count.result
    (2 ^ 64 - 1) c.loop-piece-test.true c.piece-item.is l.invariant
    (c.saturating_add-count.ensures ∙ ap (λ bs. min (l.count + length bs) (2 ^ 64 - 1)) c.as_str.ensures)
