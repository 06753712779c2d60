use Rattle.std.proofs.Common.{◌≡◌, ◌+◌, ◌≤◌, drop}
use Rattle.wt_commands.specs.Gen.{number_count}
use Rattle.wt_commands.proofs.gen_command.number_count.Given as goal

abbrev pub invariant-loop-row : goal.invariant-loop-row
invariant-loop-row l = record {
  counted : l.count + number_count (drop l.row-index l.rows) ≡ number_count l.rows;
  few : l.count ≤ l.row-index;
}
