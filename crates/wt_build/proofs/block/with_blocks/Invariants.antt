use Rattle.std.proofs.Common.{◌≤◌, ◌-◌, length, drop}
use Rattle.wt_inline.specs.Grown.{growth}
use Rattle.wt_page.specs.Stretches.{stretches_parts}
use Rattle.wt_page.specs.Body.{within}
use Rattle.wt_rows.specs.Views.{rows_view, IsRest}
use Rattle.wt_build.proofs.block.with_blocks.Given as goal

abbrev pub invariant-loop-at : goal.invariant-loop-at
invariant-loop-at l = record {
  place : l.at ≤ length l.rows;
  rest : IsRest (growth l.initial.children) (stretches_parts (within l.depth (rows_view l.pieces l.rows)))
      (growth l.children) (stretches_parts (within l.depth (rows_view l.pieces (drop l.at l.rows))));
}

abbrev pub decreases-loop-at : goal.decreases-loop-at
decreases-loop-at l = length l.rows - l.at
