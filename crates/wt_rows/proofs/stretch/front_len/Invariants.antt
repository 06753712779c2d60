use Rattle.std.proofs.Common.{◌≡◌, ◌+◌, drop}
use Rattle.std.specs.List.{prefix_len}
use Rattle.wt_rows.specs.Views.{is_gap_at}
use Rattle.wt_rows.proofs.stretch.front_len.Given as goal

abbrev pub invariant-loop-i : goal.invariant-loop-i
invariant-loop-i l = l.i + prefix_len is_gap_at (drop l.i l.stretches) ≡ prefix_len is_gap_at l.stretches
