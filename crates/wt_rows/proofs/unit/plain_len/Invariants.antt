use Rattle.std.proofs.Common.{◌≡◌, ◌≤◌, ◌+◌, ◌-◌, length, map, drop}
use Rattle.wt_rows.specs.Units.{kind_at, plain_count}
use Rattle.wt_rows.proofs.unit.plain_len.Given as goal

abbrev pub invariant-loop-at : goal.invariant-loop-at
invariant-loop-at l = record {
  within : l.at ≤ length l.rows;
  rest : l.at + plain_count 0 (drop l.at (map kind_at l.rows)) ≡ plain_count 0 (map kind_at l.rows);
}

abbrev pub decreases-loop-at : goal.decreases-loop-at
decreases-loop-at l = length l.rows - l.at
