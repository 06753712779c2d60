use Rattle.std.proofs.Common.{◌≡◌, ◌-◌, ◌≤◌, length, take}
use Rattle.std.specs.Prelude.{reverse}
use Rattle.std.specs.List.{prefix_len}
use Rattle.wt_rows.specs.Views.{is_gap_at}
use Rattle.wt_rows.proofs.stretch.block_len.Given as goal

abbrev pub invariant-loop-end : goal.invariant-loop-end
invariant-loop-end l = record {
  within : l.end ≤ length l.stretches;
  rest : l.end - prefix_len is_gap_at (reverse (take l.end l.stretches)) ≡ length l.stretches - prefix_len is_gap_at (reverse l.stretches);
}

abbrev pub decreases-loop-end : goal.decreases-loop-end
decreases-loop-end l = l.end
