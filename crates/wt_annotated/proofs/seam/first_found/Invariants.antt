use Rattle.std.proofs.Common.{◌≡◌, drop}
use Rattle.wt_span.specs.Items.{items}
use Rattle.wt_annotated.specs.Seams.{first_found}
use Rattle.wt_annotated.proofs.seam.first_found.Given as goal

abbrev pub invariant-loop-piece : goal.invariant-loop-piece
invariant-loop-piece l = first_found (items (drop l.piece-index l.pieces)) ≡ first_found (items l.pieces)
