use Rattle.std.proofs.Common.{◌≡◌, take}
use Rattle.wt_span.specs.Items.{items, sources}
use Rattle.wt_context.proofs.text.source_of.Given as goal

abbrev pub invariant-loop-piece : goal.invariant-loop-piece
invariant-loop-piece l = l.source ≡ sources (items (take l.piece-index l.pieces))
