use Rattle.std.proofs.Common.{take}
use Rattle.wt_span.specs.Items.{items}
use Rattle.wt_inline.specs.Parts.{parts}
use Rattle.wt_inline.specs.Grown.{growth, Grows}
use Rattle.wt_inline.proofs.children.Children.with_pieces.Given as goal

abbrev pub invariant-loop-piece : goal.invariant-loop-piece
invariant-loop-piece l = Grows (growth l.fn.self) (parts l.loose (items (take l.piece-index l.pieces))) (growth l.children)
