use Rattle.std.proofs.Common.{◌≡◌, drop}
use Rattle.wt_span.specs.Items.{items}
use Rattle.wt_annotated.specs.Pieces.{outer_calls}
use Rattle.wt_annotated.specs.Progress.{past}
use Rattle.wt_annotated.proofs.page_text.past_pieces.Given as goal

-- what is left to read leads to the same place
abbrev pub invariant-loop-piece : goal.invariant-loop-piece
invariant-loop-piece l = past (outer_calls l.calls) l.at (items (drop l.piece-index l.pieces)) ≡ past (outer_calls l.calls) l.fn.from (items l.pieces)
