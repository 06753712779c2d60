use Rattle.std.proofs.Common.{◌≡◌, true, take}
use Rattle.wt_span.specs.Items.{items}
use Rattle.wt_context.specs.Inert.{are_inert}
use Rattle.wt_context.proofs.inert.are_inert.Given as goal

abbrev pub invariant-loop-piece : goal.invariant-loop-piece
invariant-loop-piece l = are_inert (items (take l.piece-index l.pieces)) ≡ true
