use Rattle.std.proofs.Common.{◌≡◌, ◌++◌, drop, map}
use Rattle.std.specs.Prelude.{All}
use Rattle.wt_span.specs.Items.{items}
use Rattle.wt_span.specs.Origins.{IsSoundPiece, outer_call}
use Rattle.wt_isolation.specs.PieceParts.{parts_of}
use Rattle.wt_isolation.proofs.group_items.pieces_in.Given as goal

abbrev pub invariant-loop-at : goal.invariant-loop-at
invariant-loop-at l =
    (items l.found ++ parts_of (map outer_call l.outer) l.ranges (drop l.at l.pieces) ≡ parts_of (map outer_call l.outer) l.ranges l.pieces)
    × All IsSoundPiece l.found
