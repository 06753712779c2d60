-- What rows must be that are read as blocks.
use Rattle.std.specs.Prelude.{◌≡◌, ◌≤◌, ◌<◌, ◌^◌, ◌||◌, ℕ, Bool, true, false, List, [], ◌∷◌, length, All, codes}
use Rattle.std.specs.List.{prefix_len}
use Rattle.wt_span.specs.Bytes.{begins}
use Rattle.wt_span.specs.declared.form.Piece.{Piece}
use Rattle.wt_span.specs.Items.{sources}
use Rattle.wt_span.specs.Origins.{IsSoundPiece}
use Rattle.wt_lines.specs.declared.kind.LineKind.{LineKind}
use Rattle.wt_lines.specs.declared.kind.LineKind.TheVariants as line
use Rattle.wt_lines.specs.Pieces.{AllParted, line_items}
use Rattle.wt_blocks.specs.Nesting.{is_list_sign}
use Rattle.wt_tables.specs.declared.cell.CellAt.{CellAt}
use Rattle.wt_tables.specs.CellViews.{IsSoundCell}
use Rattle.wt_rows.specs.declared.row.RowAt.{RowAt}
use Rattle.wt_page.specs.Rows.{Row, all_items, signs}
use Rattle.wt_rows.specs.Views.{row_view, rows_view}

-- what a row of a kind begins with
abbrev pub Begins : LineKind → List ℕ → Type 0
Begins line.Blank ss = Unit {0}
Begins line.TableOpen ss = begins (codes "{|") ss ≡ true
Begins line.TableEnd ss = Unit {0}
Begins line.Caption ss = begins (codes "|+") ss ≡ true
Begins line.Row ss = begins (codes "|-") ss ≡ true
Begins line.Cell ss = begins (codes "|") ss ≡ true
Begins line.Header ss = begins (codes "!") ss ≡ true
Begins line.Heading ss = Unit {0}
Begins line.Rule ss = Unit {0}
Begins line.List ss = 0 < prefix_len is_list_sign ss
Begins line.Pre ss = begins (codes " ") ss ≡ true
Begins line.Text ss = Unit {0}

pub record IsReadyRow (ps : List Piece) (r : RowAt) : Type 0 where
  pub lead : r.start ≤ r.from
  pub items : r.from ≤ r.to
  pub ending : r.to ≤ r.end
  pub begins : Begins r.kind (signs (row_view ps r).items)

abbrev pub BeginAt : ℕ → List RowAt → Type 0
BeginAt place [] = Unit {0}
BeginAt place (r ∷ rs) = place ≡ r.start

-- each begins where the one before it ends
abbrev pub AreInOrder : List Piece → List RowAt → Type 0
AreInOrder ps [] = Unit {0}
AreInOrder ps (r ∷ rs) = IsReadyRow ps r × BeginAt r.end rs × AreInOrder ps rs

-- sound pieces that are parted at line breaks, and rows among them
pub record AreOrderedRows (ps : List Piece) (rs : List RowAt) : Type 0 where
  pub sound : All IsSoundPiece ps
  pub parted : AllParted ps
  pub rows : AreInOrder ps rs

-- rows of fewer than 2^32 bytes
abbrev pub AreFewRows : List Row → Type 0
AreFewRows rs = length (sources (all_items rs)) < 2 ^ 32

-- the same, where the rows have so few
pub record AreReadyRows (ps : List Piece) (rs : List RowAt) : Type 0 where
  pub sound : All IsSoundPiece ps
  pub parted : AllParted ps
  pub rows : AreInOrder ps rs
  pub few : AreFewRows (rows_view ps rs)

-- a sound cell with fewer than 2^32 items on its line
pub record IsReadyCell (c : CellAt) : Type 0 where
  pub sound : IsSoundCell c
  pub few : length (line_items c.rest) < 2 ^ 32

-- what a line of cells, or a caption, begins with
abbrev pub BeginsCell : Bool → List ℕ → Type 0
BeginsCell true ss = begins (codes "|+") ss ≡ true
BeginsCell false ss = (begins (codes "|") ss || begins (codes "!") ss) ≡ true
