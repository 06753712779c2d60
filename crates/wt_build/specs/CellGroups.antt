-- What the groups of a table's rows begin with.
use Rattle.std.specs.Prelude.{◌≡◌, Bool, true, false, List, [], ◌∷◌, map, codes}
use Rattle.std.specs.List.{AllByRecursion}
use Rattle.wt_span.specs.Bytes.{begins}
use Rattle.wt_span.specs.declared.form.Piece.{Piece}
use Rattle.wt_tables.specs.Parts.{is_row, is_caption, begins_part}
use Rattle.wt_rows.specs.declared.row.RowAt.{RowAt}
use Rattle.wt_rows.specs.declared.group.Group.{Group}
use Rattle.wt_page.specs.Rows.{Row, signs}
use Rattle.wt_rows.specs.Ready.{BeginsCell}
use Rattle.wt_rows.specs.GroupViews.{groups_view}
use Rattle.wt_rows.specs.Views.{rows_view}

abbrev pub groups_rows : List Piece → List RowAt → List Group → List (List Row)
groups_rows ps rs gs = map (rows_view ps) (groups_view rs gs)

-- the first row has the sign of a cell, or of a caption
abbrev pub FirstBegins : Bool → List Row → Type 0
FirstBegins caption [] = Unit {0}
FirstBegins caption (r ∷ rs) = BeginsCell caption (signs r.items)

abbrev pub AllBegin : Bool → List (List Row) → Type 0
AllBegin caption gs = AllByRecursion (FirstBegins caption) gs

-- the first row has the sign of a row of the table, of a caption or of a cell, as its kind says
pub record IsPartRow (r : Row) : Type 0 where
  pub row : is_row r.kind ≡ true → begins (codes "|-") (signs r.items) ≡ true
  pub caption : is_caption r.kind ≡ true → BeginsCell true (signs r.items)
  pub cell : is_row r.kind ≡ false → BeginsCell false (signs r.items)

abbrev pub IsPart : List Row → Type 0
IsPart [] = Unit {0}
IsPart (r ∷ rs) = IsPartRow r

abbrev pub AreParts : List (List Row) → Type 0
AreParts gs = AllByRecursion IsPart gs

-- the first row begins a caption, a row of the table or cells
abbrev pub StartsPart : List RowAt → Type 0
StartsPart [] = Unit {0}
StartsPart (r ∷ rs) = begins_part r.kind ≡ true
