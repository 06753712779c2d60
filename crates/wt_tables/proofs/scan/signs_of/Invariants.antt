use Rattle.std.proofs.Common.{◌≡◌, map, take}
use Rattle.wt_span.specs.Items.{sign, items}
use Rattle.wt_tables.specs.Views.{numbers}
use Rattle.wt_tables.proofs.scan.signs_of.Given as goal

abbrev pub invariant-loop-piece : goal.invariant-loop-piece
invariant-loop-piece l = numbers l.out ≡ map sign (items (take l.piece-index l.pieces))
