use Rattle.std.proofs.Common.{◌≡◌, drop}
use Rattle.wt_tables.specs.Cells.{has_link}
use Rattle.wt_tables.specs.Views.{numbers}
use Rattle.wt_tables.proofs.scan.has_link.Given as goal

abbrev pub invariant-loop-at : goal.invariant-loop-at
invariant-loop-at l = has_link (drop l.at (numbers l.signs)) ≡ has_link (numbers l.signs)
