use Rattle.std.proofs.Common.{◌≡◌, take}
use Rattle.wt_span.specs.Items.{items}
use Rattle.wt_context.specs.Seen.{after_items}
use Rattle.wt_context.proofs.seen.Seen.with_pieces.Given as goal

abbrev pub invariant-loop-piece : goal.invariant-loop-piece
invariant-loop-piece l = l.seen ≡ after_items l.fn.self (items (take l.piece-index l.pieces))
