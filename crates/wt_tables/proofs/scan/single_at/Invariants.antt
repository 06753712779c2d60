use Rattle.std.proofs.Common.{◌≡◌, ◌+◌, false, drop}
use Rattle.wt_tables.specs.Views.{numbers}
use Rattle.wt_tables.proofs.Singles.{single_from}
use Rattle.wt_tables.proofs.scan.single_at.Given as goal

abbrev pub invariant-loop-i : goal.invariant-loop-i
invariant-loop-i l = l.i + single_from l.behind_bar (drop l.i (numbers l.signs)) ≡ single_from false (numbers l.signs)
