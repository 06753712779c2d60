-- What cells in code stand for.
use Rattle.std.specs.Prelude.{List, ◌++◌, All}
use Rattle.wt_span.specs.Items.{Item, items}
use Rattle.wt_span.specs.Origins.{IsSoundPiece}
use Rattle.wt_tree.specs.View.{attrs_of}
use Rattle.wt_lines.specs.Pieces.{line_items}
use Rattle.wt_tables.specs.declared.cell.CellAt.{CellAt}
use Rattle.wt_tables.specs.Cells.{Cell}

abbrev pub cell_view : CellAt → Cell
cell_view c = record { header = c.header; opening = items c.opening; attrs = attrs_of c.attrs; rest = line_items c.rest }

-- all items of a cell
abbrev pub whole_cell : CellAt → List Item
whole_cell c = items c.opening ++ line_items c.rest

pub record IsSoundCell (c : CellAt) : Type 0 where
  pub opening : All IsSoundPiece c.opening
  pub rest : All IsSoundPiece c.rest.pieces
