use Rattle.std.proofs.Common.{◌≡◌, ◌+◌, ◌≤◌, drop}
use Rattle.wt_commands.specs.Gen.{group_count}
use Rattle.wt_commands.proofs.gen_command.group_count.Given as goal

abbrev pub invariant-loop-row : goal.invariant-loop-row
invariant-loop-row l = record {
  counted : l.count + group_count (drop l.row-index l.rows) ≡ group_count l.rows;
  few : l.count ≤ l.row-index;
}
