use Rattle.std.proofs.Common.{◌≡◌, take}
use Rattle.wt_span.specs.Items.{items}
use Rattle.wt_context.specs.Heads.{text_of}
use Rattle.wt_context.proofs.text.text_of.Given as goal

abbrev pub invariant-loop-piece : goal.invariant-loop-piece
invariant-loop-piece l = l.text ≡ text_of (items (take l.piece-index l.pieces))
