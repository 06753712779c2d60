use Rattle.std.proofs.Common.{◌≡◌, ◌++◌, []}
use Rattle.std.specs.Prelude.{All}
use Rattle.std.specs.List.{flat_map}
use Rattle.std.specs.Vec.Iter.{into_iter_items}
use Rattle.wt_tables.specs.CellViews.{cell_view}
use Rattle.wt_page.specs.Tables.{cell_by}
use Rattle.wt_rows.specs.Ready.{IsReadyCell}
use Rattle.wt_rows.specs.Views.{stretches_view}
use Rattle.wt_rows.proofs.cell.first_cells.Given as goal

abbrev pub invariant-loop-cell : goal.invariant-loop-cell
invariant-loop-cell l = record {
  sound : All IsReadyCell (into_iter_items l.cell-iterator);
  rest : stretches_view l.pieces l.out.items ++ flat_map (λ c. cell_by l.caption (cell_view c) []) (into_iter_items l.cell-iterator)
      ≡ flat_map (λ c. cell_by l.caption (cell_view c) []) (into_iter_items l.initial.cell-iterator);
}
