-- Rows while they are made, line by line, from pieces.
use Rattle.std.specs.Prelude.{◌≡◌, ◌≤◌, ◌<◌, ℕ, false, List, [], ◌∷◌, ◌++◌, length, take, drop, All, if◌then◌else◌}
use Rattle.wt_span.specs.declared.form.Piece.{Piece}
use Rattle.wt_span.specs.Items.{Item, sign, is_mark, items}
use Rattle.wt_span.specs.Origins.{IsSoundPiece}
use Rattle.wt_lines.specs.declared.kind.LineKind.{LineKind}
use Rattle.wt_lines.specs.declared.kind.LineKind.TheVariants as line
use Rattle.wt_lines.specs.Kinds.{is_mark_sign, is_idle_all}
use Rattle.wt_lines.specs.Lines.{IsUnbroken, content, full_lines}
use Rattle.wt_lines.specs.Pieces.{AllParted}
use Rattle.wt_tiles.specs.Cutting.{IsEdgeIn}
use Rattle.wt_page.specs.Lines.{kind_at}
use Rattle.wt_rows.specs.declared.row.RowAt.{RowAt}
use Rattle.wt_rows.specs.declared.rows.PageRows.{PageRows}
use Rattle.wt_page.specs.Rows.{Row, signs, marks_len, idle_len, dashes, rows_from}
use Rattle.wt_rows.specs.Views.{rows_view}
use Rattle.wt_rows.specs.Ready.{Begins, AreOrderedRows}

-- sound pieces that are parted at line breaks
pub record AreWhole (ps : List Piece) : Type 0 where
  pub sound : All IsSoundPiece ps
  pub parted : AllParted ps

-- what may be a row: whole pieces, which begin as its kind says
pub record IsRowOf (k : LineKind) (before own after : List Piece) : Type 0 where
  pub lead : AreWhole before
  pub inside : AreWhole own
  pub ending : AreWhole after
  pub begins : Begins k (signs (items own))

abbrev pub row_of : LineKind → List Piece → List Piece → List Piece → Row
row_of k lead inside ending = record { kind = k; lead = items lead; items = items inside; ending = items ending }

-- ---- what was made so far

-- the place at which the last of rows ends
abbrev pub rows_end : List RowAt → ℕ
rows_end [] = 0
rows_end (r ∷ []) = r.end
rows_end (r ∷ s ∷ rs) = rows_end (s ∷ rs)

-- rows in order, of which the last ends with the pieces
pub record AreMade (ps : List Piece) (rs : List RowAt) : Type 0 where
  pub ready : AreOrderedRows ps rs
  pub end : rows_end rs ≡ length ps

abbrev pub ArePageRows : PageRows → Type 0
ArePageRows r = AreMade r.pieces r.rows

abbrev pub made_rows : PageRows → List Row
made_rows r = rows_view r.pieces r.rows

-- ---- rows by what is on a line and what ends it

-- a row with so many items as lead
abbrev pub cut_row : LineKind → ℕ → List Item → List Item → Row
cut_row k n content end = record { kind = k; lead = take n content; items = drop n content; ending = end }

-- a row of a sign, and a second one of what is seen after it
abbrev pub parted_rows : LineKind → List Item → List Item → List Item → List Item → List Row
parted_rows k lead own rest end =
    if is_idle_all (signs rest) then record { kind = k; lead = lead; items = own; ending = rest ++ end } ∷ []
    else record { kind = k; lead = lead; items = own; ending = [] } ∷ cut_row line.Text (marks_len rest) rest end ∷ []

-- the same where the sign has so many items
abbrev pub signed_rows : LineKind → List Item → ℕ → List Item → List Item → List Row
signed_rows k lead n content end = parted_rows k lead (take n content) (drop n content) end

-- the end of a table after blanks and marks, and a rule after marks
abbrev pub table_end_rows : List Item → List Item → List Row
table_end_rows content end =
    let n = idle_len content in
    signed_rows line.TableEnd (take n content) 2 (drop n content) end

abbrev pub rule_rows : List Item → List Item → List Row
rule_rows content end =
    let n = marks_len content in
    signed_rows line.Rule (take n content) (dashes (drop n content)) (drop n content) end

-- this is the kind of a line, where so many tables are open
abbrev pub IsKindAt : LineKind → List Item → Type 0
IsKindAt k l = (tables : ℕ) × (k ≡ kind_at tables l)

-- ---- rows before a line that comes after them already

-- the rows of the pieces before a place
abbrev pub rows_before : ℕ → PageRows → List Row
rows_before start r = rows_view (take start r.pieces) r.rows

-- the rows are those of the pieces before a place, at which a whole line of this kind begins
pub record HasLine (start : ℕ) (k : LineKind) (r : PageRows) : Type 0 where
  pub place : start ≤ length r.pieces
  pub made : AreMade (take start r.pieces) r.rows
  pub line : AreWhole (drop start r.pieces)
  pub unbroken : IsUnbroken (content (items (drop start r.pieces)))
  pub kind : IsKindAt k (items (drop start r.pieces))

-- no character lies on both sides of a cut after blanks and marks
abbrev pub IsIdleCut : List Item → Type 0
IsIdleCut xs = 0 < idle_len xs → IsEdgeIn xs (idle_len xs)

-- lines of tables that are one row
abbrev pub IsTableLine : LineKind → Type 0
IsTableLine line.Blank = ⊥
IsTableLine line.TableOpen = Unit {0}
IsTableLine line.TableEnd = ⊥
IsTableLine line.Caption = Unit {0}
IsTableLine line.Row = Unit {0}
IsTableLine line.Cell = Unit {0}
IsTableLine line.Header = Unit {0}
IsTableLine line.Heading = ⊥
IsTableLine line.Rule = ⊥
IsTableLine line.List = ⊥
IsTableLine line.Pre = ⊥
IsTableLine line.Text = ⊥

-- lines of which the marks alone are the lead
abbrev pub IsTextLine : LineKind → Type 0
IsTextLine line.Blank = ⊥
IsTextLine line.TableOpen = ⊥
IsTextLine line.TableEnd = ⊥
IsTextLine line.Caption = ⊥
IsTextLine line.Row = ⊥
IsTextLine line.Cell = ⊥
IsTextLine line.Header = ⊥
IsTextLine line.Heading = Unit {0}
IsTextLine line.Rule = ⊥
IsTextLine line.List = Unit {0}
IsTextLine line.Pre = Unit {0}
IsTextLine line.Text = Unit {0}

-- no mark is at the front
abbrev pub NoMark : List Item → Type 0
NoMark [] = Unit {0}
NoMark (x ∷ xs) = is_mark x ≡ false

-- and the sign at the front is none of a mark
abbrev pub IsSeen : List Item → Type 0
IsSeen [] = Unit {0}
IsSeen (x ∷ xs) = is_mark_sign (sign x) ≡ false

abbrev pub IsSeenFirst : List Item → Type 0
IsSeenFirst xs = (rest : List Item) → NoMark (xs ++ rest) → IsSeen (xs ++ rest)

-- with the rows of pieces at which so many tables are open, these rows are all
abbrev pub IsRowsSoFar : List Row → ℕ → List Piece → List Row → Type 0
IsRowsSoFar made tables ps all = made ++ rows_from tables (full_lines (items ps)) ≡ all
