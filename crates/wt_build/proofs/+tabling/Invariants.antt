use Rattle.std.proofs.Common.{drop, length, ◌*◌, ◌++◌, ◌+◌, ◌-◌, ◌≡◌, ◌≤◌}
use Rattle.std.specs.List.{flat_map}
use Rattle.wt_page.specs.Tables.{cell_stretches}
use Rattle.wt_build.specs.Blocks.{reading_at}
use Rattle.wt_build.specs.CellGroups.{AllBegin, AreParts, groups_rows}
use Rattle.wt_rows.specs.Views.{stretches_view}
use Rattle.wt_build.specs.RowGroups.{rows_of_groups}
use Rattle.wt_build.proofs.+tabling.Given as goal
use Rattle.std.proofs.Common.{◌≤◌, ◌-◌, length, drop}
use Rattle.wt_build.proofs.BlockNodes.{IsSoFar}

abbrev pub invariant-table::all_cells-loop-group : goal.invariant-table::all_cells-loop-group
invariant-table::all_cells-loop-group l = record {
  sign : AllBegin l.caption (groups_rows l.pieces l.rows (drop l.group-index l.groups));
  rest : stretches_view l.pieces l.out.items ++ flat_map (cell_stretches (reading_at l.depth) l.caption)
      (groups_rows l.pieces l.rows (drop l.group-index l.groups))
      ≡ flat_map (cell_stretches (reading_at l.depth) l.caption) (groups_rows l.pieces l.rows l.groups);
}

abbrev pub invariant-table::all_rows-loop-at : goal.invariant-table::all_rows-loop-at
invariant-table::all_rows-loop-at l = record {
  within : l.at ≤ length l.groups;
  parts : AreParts (groups_rows l.pieces l.rows (drop l.at l.groups));
  rest : stretches_view l.pieces l.out.items ++ rows_of_groups (reading_at l.depth) (groups_rows l.pieces l.rows (drop l.at l.groups))
      ≡ rows_of_groups (reading_at l.depth) (groups_rows l.pieces l.rows l.groups);
}

abbrev pub decreases-table::all_rows-loop-at : goal.decreases-table::all_rows-loop-at
decreases-table::all_rows-loop-at l = length l.groups - l.at

abbrev pub decreases-table::read_rows : goal.decreases-table::read_rows
decreases-table::read_rows l = 10 * l.depth

abbrev pub decreases-table::cell_stretches : goal.decreases-table::cell_stretches
decreases-table::cell_stretches l = 10 * l.depth + 1

abbrev pub decreases-table::all_cells : goal.decreases-table::all_cells
decreases-table::all_cells l = 10 * l.depth + 2

abbrev pub decreases-table::table_row : goal.decreases-table::table_row
decreases-table::table_row l = 10 * l.depth + 3

abbrev pub decreases-table::all_rows : goal.decreases-table::all_rows
decreases-table::all_rows l = 10 * l.depth + 4

abbrev pub decreases-table::body : goal.decreases-table::body
decreases-table::body l = 10 * l.depth + 5

abbrev pub decreases-table::inside : goal.decreases-table::inside
decreases-table::inside l = 10 * l.depth + 6

abbrev pub decreases-table::table : goal.decreases-table::table
decreases-table::table l = 10 * l.depth + 7

abbrev pub decreases-block::block : goal.decreases-block::block
decreases-block::block l = 10 * l.depth + 8

abbrev pub decreases-block::blocks : goal.decreases-block::blocks
decreases-block::blocks l = 10 * l.depth + 9

abbrev pub invariant-block::blocks-loop-at : goal.invariant-block::blocks-loop-at
invariant-block::blocks-loop-at l = record {
  within : l.at ≤ length l.rows;
  so_far : IsSoFar l.depth l.pieces l.rows l.out.items (drop l.at l.rows);
}

abbrev pub decreases-block::blocks-loop-at : goal.decreases-block::blocks-loop-at
decreases-block::blocks-loop-at l = length l.rows - l.at
