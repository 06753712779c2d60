use Rattle.std.proofs.Common.{◌≡◌, drop}
use Rattle.wt_span.specs.Items.{items}
use Rattle.wt_transclusion.specs.Ends.{BeginsAscii}
use Rattle.wt_transclusion.proofs.trim.behind_items.Given as goal

abbrev pub invariant-loop-i : goal.invariant-loop-i
invariant-loop-i l =
    (drop l.left (items (drop l.i l.pieces)) ≡ drop l.count (items l.pieces))
    × (BeginsAscii l.count (items l.pieces) → BeginsAscii l.left (items (drop l.i l.pieces)))
