use Rattle.std.proofs.Common.{◌≡◌, take}
use Rattle.wt_span.specs.Items.{items}
use Rattle.wt_annotated.specs.Labels.{width}
use Rattle.wt_annotated.proofs.piece.width.Given as goal

abbrev pub invariant-loop-piece : goal.invariant-loop-piece
invariant-loop-piece l = l.width ≡ width (items (take l.piece-index l.pieces))
