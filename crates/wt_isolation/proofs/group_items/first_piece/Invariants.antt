use Rattle.std.proofs.Common.{◌≡◌, ◌≤◌, ◌-◌, drop, length, map}
use Rattle.wt_span.specs.Origins.{outer_call}
use Rattle.wt_isolation.specs.PieceParts.{parts_of}
use Rattle.wt_isolation.proofs.group_items.first_piece.Given as goal

abbrev pub invariant-loop-low : goal.invariant-loop-low
invariant-loop-low l =
    (l.low ≤ l.high) × (l.high ≤ length l.pieces)
    × (parts_of (map outer_call l.outer) l.ranges (drop l.low l.pieces) ≡ parts_of (map outer_call l.outer) l.ranges l.pieces)

abbrev pub decreases-loop-low : goal.decreases-loop-low
decreases-loop-low l = l.high - l.low
