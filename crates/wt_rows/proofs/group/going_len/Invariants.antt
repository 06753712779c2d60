use Rattle.std.proofs.Common.{◌≡◌, ◌+◌, drop}
use Rattle.std.specs.List.{prefix_len}
use Rattle.wt_rows.specs.Units.{kind_at}
use Rattle.wt_rows.specs.Groups.{goes_on}
use Rattle.wt_rows.specs.GroupViews.{groups_view}
use Rattle.wt_rows.proofs.group.going_len.Given as goal

abbrev pub invariant-loop-i : goal.invariant-loop-i
invariant-loop-i l = l.i + prefix_len (goes_on kind_at) (groups_view l.rows (drop l.i l.groups)) ≡ prefix_len (goes_on kind_at) (groups_view l.rows l.groups)
