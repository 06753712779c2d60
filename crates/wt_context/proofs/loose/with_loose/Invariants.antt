use Rattle.std.proofs.Common.{◌≡◌, ◌++◌, List, take}
use Rattle.wt_span.specs.Items.{Item, items}
use Rattle.wt_context.specs.Segments.{loose_segments}
use Rattle.wt_context.specs.Tokens.{segments_of}
use Rattle.wt_context.specs.Loosened.{loosened}
use Rattle.wt_context.proofs.loose.with_loose.Given as goal

abbrev pub invariant-loop-piece : goal.invariant-loop-piece
invariant-loop-piece l = (xs : List Item) → loosened l.now xs ≡ segments_of l.fn.tokens ++ loose_segments (items (take l.piece-index l.pieces) ++ xs)
