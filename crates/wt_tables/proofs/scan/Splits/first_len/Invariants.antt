use Rattle.std.proofs.Common.{◌≡◌, ◌+◌, ◌-◌, ◌≤◌, length, drop}
use Rattle.wt_tables.specs.Views.{numbers, first_len}
use Rattle.wt_tables.proofs.scan.Splits.first_len.Given as goal

abbrev pub invariant-loop-at : goal.invariant-loop-at
invariant-loop-at l = record {
  within : l.at ≤ length l.signs;
  behind : l.from ≤ l.at;
  rest : l.at + first_len l.self 0 (drop l.at (numbers l.signs)) ≡ first_len l.self l.from (numbers l.signs);
}

abbrev pub decreases-loop-at : goal.decreases-loop-at
decreases-loop-at l = length l.signs - l.at
