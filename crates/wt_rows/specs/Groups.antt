-- Groups of the rows in a table: a row that begins a caption, a row of the table or cells, with those
-- after it up to the next such row.
use Rattle.std.specs.Prelude.{ℕ, not, Bool, List, map}
use Rattle.std.specs.List.{prefix_len}
use Rattle.wt_lines.specs.declared.kind.LineKind.{LineKind}
use Rattle.wt_tables.specs.Parts.{joined, units, unit_kind, groups, is_row, is_caption}
use Rattle.wt_page.specs.Rows.{kind_of}

abbrev pub group_rows : {A : Type 0} → (A → LineKind) → List A → List (List A)
group_rows kind_of ls = map joined (groups kind_of (units kind_of ls))

-- a group goes on a row of the table where it begins none
abbrev pub goes_on : {A : Type 0} → (A → LineKind) → List A → Bool
goes_on kind_of g = not (is_row (unit_kind kind_of g))

abbrev pub captions_count : {A : Type 0} → (A → LineKind) → List (List A) → ℕ
captions_count kind_of gs = prefix_len (λ g. is_caption (unit_kind kind_of g)) gs
