use Rattle.std.proofs.Common.{◌≡◌, ◌-◌, ◌^◌, length, take}
use Rattle.std.specs.Prelude.{min}
use Rattle.wt_span.specs.Items.{items, sources}
use Rattle.wt_transclusion.proofs.cost.byte_count.Given as goal

abbrev pub invariant-loop-piece : goal.invariant-loop-piece
invariant-loop-piece l = l.count ≡ min (length (sources (items (take l.piece-index l.pieces)))) (2 ^ 64 - 1)
