use Rattle.std.proofs.Common.{◌≡◌, ◌-◌, ◌≤◌, length, take}
use Rattle.std.specs.Prelude.{reverse}
use Rattle.std.specs.List.{prefix_len}
use Rattle.wt_page.specs.Tables.{is_blank_row, stray_len}
use Rattle.wt_rows.specs.Views.{rows_view}
use Rattle.wt_rows.proofs.delimiter.stray_len.Given as goal

abbrev pub invariant-loop-end : goal.invariant-loop-end
invariant-loop-end l = record {
  within : l.end ≤ length l.rows;
  rest : l.end - prefix_len is_blank_row (reverse (take l.end (rows_view l.pieces l.rows))) ≡ stray_len (rows_view l.pieces l.rows);
}

abbrev pub decreases-loop-end : goal.decreases-loop-end
decreases-loop-end l = l.end
