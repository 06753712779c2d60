use Rattle.std.proofs.Common.{◌≡◌, ◌≤◌, ◌-◌, ◌++◌, length, drop}
use Rattle.wt_rows.specs.Units.{kind_at}
use Rattle.wt_rows.specs.Groups.{group_rows}
use Rattle.wt_rows.specs.GroupViews.{groups_view}
use Rattle.wt_rows.proofs.group.groups.Given as goal

abbrev pub invariant-loop-at : goal.invariant-loop-at
invariant-loop-at l = record {
  within : l.at ≤ length l.rows;
  rest : groups_view l.rows l.out ++ group_rows kind_at (drop l.at l.rows) ≡ group_rows kind_at l.rows;
}

abbrev pub decreases-loop-at : goal.decreases-loop-at
decreases-loop-at l = length l.rows - l.at
