-- How the lines of a table are laid out in its parts. A unit is a line of the table's own level, or a nested table whole; its
-- kind is that of its first line.
use Rattle.std.specs.Prelude.{◌≡◌, ◌⊎◌, List, [], ◌∷◌, ◌++◌, map}
use Rattle.std.specs.List.{AllByRecursion, flat_map}
use Rattle.wt_lines.specs.declared.kind.LineKind.{LineKind}
use Rattle.wt_lines.specs.declared.kind.LineKind.TheVariants as kind
use Rattle.wt_tables.specs.Parts.{joined, units, unit_kind, RowOf, TableOf}

-- lines that begin a caption, a row or cells
pub data BeginsPart : LineKind → Type 0 where
  caption : BeginsPart kind.Caption
  row : BeginsPart kind.Row
  cell : BeginsPart kind.Cell
  header : BeginsPart kind.Header

-- lines that begin cells where no row or cell comes before
pub data BeginsFirstCell : LineKind → Type 0 where
  first_cell : BeginsFirstCell kind.Cell
  first_header : BeginsFirstCell kind.Header

-- and after a row or cell, where a caption is a cell too
pub data BeginsCell : LineKind → Type 0 where
  plain_cell : BeginsCell kind.Cell
  header_cell : BeginsCell kind.Header
  late_caption : BeginsCell kind.Caption

abbrev pub IsCaption : LineKind → Type 0
IsCaption k = k ≡ kind.Caption

-- a unit that begins no part
abbrev pub BeginsNone : {A : Type 0} → (A → LineKind) → List A → Type 0
BeginsNone kind_of u = BeginsPart (unit_kind kind_of u) → ⊥

-- What follows the line of a delimiter: stray units, which belong to it and of which the last isn't blank, and blank ones
-- after them, which don't.
pub record Follow {A : Type 0} (kind_of : A → LineKind) (stray blank : List (List A)) : Type 0 where
  pub begin_none : AllByRecursion (BeginsNone kind_of) stray
  pub ends : (front : List (List A)) (u : List A) → stray ≡ front ++ (u ∷ []) → unit_kind kind_of u ≡ kind.Blank → ⊥
  pub blanks : AllByRecursion (λ u. unit_kind kind_of u ≡ kind.Blank) blank

-- a part: the unit that begins it, and those after it, of which none begins one
pub record IsPart {A : Type 0} (kind_of : A → LineKind) (Begins : LineKind → Type 0) (us : List (List A)) : Type 0 where
  pub first : List A
  pub others : List (List A)
  pub all : us ≡ first ∷ others
  pub begins : Begins (unit_kind kind_of first)
  pub begin_none : AllByRecursion (BeginsNone kind_of) others

-- A row by its units: its line, if there is one, what follows that, and its cells.
pub record LaidRow (A : Type 0) : Type 0 where
  pub line : List (List A)
  pub stray : List (List A)
  pub blank : List (List A)
  pub cells : List (List (List A))

abbrev pub row_units : {A : Type 0} → LaidRow A → List (List A)
row_units r = r.line ++ (r.stray ++ (r.blank ++ joined r.cells))

-- the row's lines: the stray ones are in its delimiter
abbrev pub row_made : {A : Type 0} → LaidRow A → RowOf A
row_made r = record { opening = joined (r.line ++ r.stray); between = joined r.blank; cells = map joined r.cells }

-- a row that a line begins
pub record IsBegun {A : Type 0} (kind_of : A → LineKind) (r : LaidRow A) : Type 0 where
  pub unit : List A
  pub line : r.line ≡ unit ∷ []
  pub begins : unit_kind kind_of unit ≡ kind.Row
  pub follow : Follow kind_of r.stray r.blank
  pub cells : AllByRecursion (IsPart kind_of BeginsCell) r.cells

-- a row without a line begins with a cell
pub record IsImplied {A : Type 0} (kind_of : A → LineKind) (r : LaidRow A) : Type 0 where
  pub first : List (List A)
  pub others : List (List (List A))
  pub line : r.line ≡ []
  pub stray : r.stray ≡ []
  pub blank : r.blank ≡ []
  pub all : r.cells ≡ first ∷ others
  pub begins : IsPart kind_of BeginsFirstCell first
  pub cells : AllByRecursion (IsPart kind_of BeginsCell) others

-- the first row alone may have no line
abbrev pub AreRows : {A : Type 0} → (A → LineKind) → List (LaidRow A) → Type 0
AreRows kind_of [] = Unit {0}
AreRows kind_of (r ∷ rs) = (IsBegun kind_of r ⊎ IsImplied kind_of r) × AllByRecursion (IsBegun kind_of) rs

-- A table with this opening line and these lines inside: what follows the line, captions, rows.
pub record IsLaidOut {A : Type 0} (kind_of : A → LineKind) (first : A) (inside : List A) (t : TableOf A) : Type 0 where
  pub stray : List (List A)
  pub blank : List (List A)
  pub captions : List (List (List A))
  pub rows : List (LaidRow A)
  pub all : units kind_of inside ≡ stray ++ (blank ++ (joined captions ++ flat_map row_units rows))
  pub opening : t.opening ≡ first ∷ joined stray
  pub between : t.between ≡ joined blank
  pub made_captions : t.captions ≡ map joined captions
  pub made_rows : t.rows ≡ map row_made rows
  pub follow : Follow kind_of stray blank
  pub are_captions : AllByRecursion (IsPart kind_of IsCaption) captions
  pub are_rows : AreRows kind_of rows
