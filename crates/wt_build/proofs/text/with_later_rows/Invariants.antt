use Rattle.std.proofs.Common.{◌<◌, ◌≤◌, ◌-◌, length, drop}
use Rattle.wt_inline.specs.Grown.{growth}
use Rattle.wt_rows.specs.Views.{rows_view, IsRest}
use Rattle.wt_build.specs.Blocks.{later_from}
use Rattle.wt_build.proofs.text.with_later_rows.Given as goal

abbrev pub invariant-loop-at : goal.invariant-loop-at
invariant-loop-at l = record {
  some : 0 < l.at;
  within : l.at ≤ length l.rows;
  rest : IsRest (growth l.initial.children) (later_from l.kind (rows_view l.pieces l.rows)) (growth l.children)
      (later_from l.kind (rows_view l.pieces (drop (l.at - 1) l.rows)));
}

abbrev pub decreases-loop-at : goal.decreases-loop-at
decreases-loop-at l = length l.rows - l.at
