-- The parts of a table, by its lines: open delimiter, captions, rows and their cells. Lines are of any type that tells their
-- kinds; those of a table are its opening line and the lines inside it, without the one that ends it.
use Rattle.std.specs.Prelude.{ℕ, zero, suc, ◌-◌, not, Bool, true, false, List, [], ◌∷◌, ◌++◌, length, map, take, drop, reverse}
use Rattle.std.specs.List.{flat_map, prefix_len}
use Rattle.wt_span.specs.Runs.{runs}
use Rattle.wt_lines.specs.declared.kind.LineKind.{LineKind}
use Rattle.wt_lines.specs.declared.kind.LineKind.TheVariants as kind
use Rattle.wt_tables.specs.Extents.{inner_len}

abbrev pub joined : {A : Type 0} → List (List A) → List A
joined ls = flat_map (λ l. l) ls

-- ---- units: a line of the table's own level, or a whole nested table

-- how many lines after it belong to the unit that a line begins
abbrev pub taken_len : LineKind → ℕ → ℕ
taken_len kind.Blank inner = 0
taken_len kind.TableOpen inner = inner
taken_len kind.TableEnd inner = 0
taken_len kind.Caption inner = 0
taken_len kind.Row inner = 0
taken_len kind.Cell inner = 0
taken_len kind.Header inner = 0
taken_len kind.Heading inner = 0
taken_len kind.Rule inner = 0
taken_len kind.List inner = 0
taken_len kind.Pre inner = 0
taken_len kind.Text inner = 0

abbrev pub put_first : {A : Type 0} → A → List (List A) → List (List A)
put_first l [] = (l ∷ []) ∷ []
put_first l (u ∷ us) = (l ∷ u) ∷ us

-- the next `n` lines of a unit that goes on, and the units after it
abbrev pub units_from : {A : Type 0} → (A → LineKind) → ℕ → List A → List (List A)
units_from kind_of n [] = [] ∷ []
units_from kind_of (suc n) (l ∷ ls) = put_first l (units_from kind_of n ls)
units_from kind_of zero (l ∷ ls) = [] ∷ put_first l (units_from kind_of (taken_len (kind_of l) (inner_len (map kind_of ls))) ls)

abbrev pub units : {A : Type 0} → (A → LineKind) → List A → List (List A)
units kind_of ls = drop 1 (units_from kind_of 0 ls)

-- the kind of a unit is that of its first line
abbrev pub unit_kind : {A : Type 0} → (A → LineKind) → List A → LineKind
unit_kind kind_of [] = kind.Blank
unit_kind kind_of (l ∷ ls) = kind_of l

-- ---- groups: a line that begins a caption, a row or cells, with the units up to the next such line

abbrev pub begins_part : LineKind → Bool
begins_part kind.Blank = false
begins_part kind.TableOpen = false
begins_part kind.TableEnd = false
begins_part kind.Caption = true
begins_part kind.Row = true
begins_part kind.Cell = true
begins_part kind.Header = true
begins_part kind.Heading = false
begins_part kind.Rule = false
begins_part kind.List = false
begins_part kind.Pre = false
begins_part kind.Text = false

abbrev pub begins_group : {A : Type 0} → (A → LineKind) → List A → Bool
begins_group kind_of u = begins_part (unit_kind kind_of u)

abbrev pub groups : {A : Type 0} → (A → LineKind) → List (List A) → List (List (List A))
groups kind_of us = runs (λ u v. not (begins_group kind_of v)) us

abbrev pub group_kind : {A : Type 0} → (A → LineKind) → List (List A) → LineKind
group_kind kind_of [] = kind.Blank
group_kind kind_of (u ∷ us) = unit_kind kind_of u

-- ---- delimiters

abbrev pub is_blank_kind : LineKind → Bool
is_blank_kind kind.Blank = true
is_blank_kind kind.TableOpen = false
is_blank_kind kind.TableEnd = false
is_blank_kind kind.Caption = false
is_blank_kind kind.Row = false
is_blank_kind kind.Cell = false
is_blank_kind kind.Header = false
is_blank_kind kind.Heading = false
is_blank_kind kind.Rule = false
is_blank_kind kind.List = false
is_blank_kind kind.Pre = false
is_blank_kind kind.Text = false

-- stray units: up to the last that isn't blank
abbrev pub stray_len : {A : Type 0} → (A → LineKind) → List (List A) → ℕ
stray_len kind_of us = length us - prefix_len (λ u. is_blank_kind (unit_kind kind_of u)) (reverse us)

-- an opening line, or a line that begins a row, takes the stray units after it
abbrev pub with_stray : {A : Type 0} → (A → LineKind) → List A → List (List A) → List A
with_stray kind_of line us = line ++ joined (take (stray_len kind_of us) us)

abbrev pub past_stray : {A : Type 0} → (A → LineKind) → List (List A) → List A
past_stray kind_of us = joined (drop (stray_len kind_of us) us)

-- ---- rows

-- A row: its open delimiter (nothing where no line begins it), the blank lines after that, and for each line of cells this
-- line with those after it that belong to its last cell.
pub record RowOf (A : Type 0) : Type 0 where
  pub opening : List A
  pub between : List A
  pub cells : List (List A)

abbrev pub is_row : LineKind → Bool
is_row kind.Blank = false
is_row kind.TableOpen = false
is_row kind.TableEnd = false
is_row kind.Caption = false
is_row kind.Row = true
is_row kind.Cell = false
is_row kind.Header = false
is_row kind.Heading = false
is_row kind.Rule = false
is_row kind.List = false
is_row kind.Pre = false
is_row kind.Text = false

abbrev pub row_by : {A : Type 0} → (A → LineKind) → Bool → List (List A) → List (List (List A)) → RowOf A
row_by kind_of begun [] gs = record { opening = []; between = []; cells = map joined gs }
row_by kind_of true (u ∷ us) gs = record { opening = with_stray kind_of u us; between = past_stray kind_of us; cells = map joined gs }
row_by kind_of false (u ∷ us) gs = record { opening = []; between = []; cells = joined (u ∷ us) ∷ map joined gs }

-- a row of groups; cells before the first line that begins a row have one with an empty delimiter
abbrev pub row_of : {A : Type 0} → (A → LineKind) → List (List (List A)) → RowOf A
row_of kind_of [] = record { opening = []; between = []; cells = [] }
row_of kind_of (g ∷ gs) = row_by kind_of (is_row (group_kind kind_of g)) g gs

abbrev pub rows_of : {A : Type 0} → (A → LineKind) → List (List (List A)) → List (RowOf A)
rows_of kind_of gs = map (row_of kind_of) (runs (λ g h. not (is_row (group_kind kind_of h))) gs)

-- ---- tables

-- A table: its open delimiter, the blank lines after that, its captions, each with the lines after it, and its rows. The
-- rows lie in one body with empty delimiters; a table without rows has none.
pub record TableOf (A : Type 0) : Type 0 where
  pub opening : List A
  pub between : List A
  pub captions : List (List A)
  pub rows : List (RowOf A)

abbrev pub is_caption : LineKind → Bool
is_caption kind.Blank = false
is_caption kind.TableOpen = false
is_caption kind.TableEnd = false
is_caption kind.Caption = true
is_caption kind.Row = false
is_caption kind.Cell = false
is_caption kind.Header = false
is_caption kind.Heading = false
is_caption kind.Rule = false
is_caption kind.List = false
is_caption kind.Pre = false
is_caption kind.Text = false

-- how many units come before the first that begins a part, and how many captions before the first row or cell
abbrev pub plain_len : {A : Type 0} → (A → LineKind) → List (List A) → ℕ
plain_len kind_of us = prefix_len (λ u. not (begins_group kind_of u)) us

abbrev pub captions_len : {A : Type 0} → (A → LineKind) → List (List (List A)) → ℕ
captions_len kind_of gs = prefix_len (λ g. is_caption (group_kind kind_of g)) gs

abbrev pub table_by : {A : Type 0} → (A → LineKind) → A → List (List A) → List (List (List A)) → TableOf A
table_by kind_of first plain gs = record {
  opening = with_stray kind_of (first ∷ []) plain;
  between = past_stray kind_of plain;
  captions = map joined (take (captions_len kind_of gs) gs);
  rows = rows_of kind_of (drop (captions_len kind_of gs) gs);
}

-- the table with this opening line and these lines inside
abbrev pub table_of : {A : Type 0} → (A → LineKind) → A → List A → TableOf A
table_of kind_of first inside =
    let us = units kind_of inside in
    table_by kind_of first (take (plain_len kind_of us) us) (groups kind_of (drop (plain_len kind_of us) us))

-- ---- all lines

abbrev pub row_lines : {A : Type 0} → RowOf A → List A
row_lines r = r.opening ++ (r.between ++ joined r.cells)

abbrev pub table_lines : {A : Type 0} → TableOf A → List A
table_lines t = t.opening ++ (t.between ++ (joined t.captions ++ flat_map row_lines t.rows))
