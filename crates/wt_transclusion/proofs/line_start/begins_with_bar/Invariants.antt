use Rattle.std.proofs.Common.{◌≡◌, drop}
use Rattle.wt_span.specs.Items.{items}
use Rattle.wt_expand.specs.Expansion.{begins_with_bar}
use Rattle.wt_transclusion.proofs.line_start.begins_with_bar.Given as goal

abbrev pub invariant-loop-piece : goal.invariant-loop-piece
invariant-loop-piece l = begins_with_bar (items (drop l.piece-index l.pieces)) ≡ begins_with_bar (items l.pieces)
