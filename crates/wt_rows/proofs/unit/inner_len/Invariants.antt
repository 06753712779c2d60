use Rattle.std.proofs.Common.{◌≡◌, ◌≤◌, ◌+◌, map, drop}
use Rattle.wt_rows.specs.Units.{kind_at}
use Rattle.wt_tables.proofs.Ends.{depth_len}
use Rattle.wt_rows.proofs.unit.inner_len.Given as goal

abbrev pub invariant-loop-i : goal.invariant-loop-i
invariant-loop-i l = record {
  few : l.depth ≤ l.i;
  rest : l.i + depth_len (drop l.i (map kind_at l.rows)) l.depth ≡ depth_len (map kind_at l.rows) 0;
}
