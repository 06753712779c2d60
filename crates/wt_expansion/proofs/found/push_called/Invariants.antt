use Rattle.std.proofs.Common.{take}
use Rattle.wt_expansion.specs.Made.{Appends}
use Rattle.wt_expansion.proofs.found.push_called.Given as goal

abbrev pub invariant-loop-piece : goal.invariant-loop-piece
invariant-loop-piece l = Appends l.number (take l.piece-index l.given) l.fn.pieces.items l.pieces.items
