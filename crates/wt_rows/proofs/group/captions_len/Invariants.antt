use Rattle.std.proofs.Common.{◌≡◌, ◌+◌, drop}
use Rattle.wt_rows.specs.Units.{kind_at}
use Rattle.wt_rows.specs.Groups.{captions_count}
use Rattle.wt_rows.specs.GroupViews.{groups_view}
use Rattle.wt_rows.proofs.group.captions_len.Given as goal

abbrev pub invariant-loop-i : goal.invariant-loop-i
invariant-loop-i l = l.i + captions_count kind_at (groups_view l.rows (drop l.i l.groups)) ≡ captions_count kind_at (groups_view l.rows l.groups)
