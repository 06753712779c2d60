-- How many tables rows open and end, and the kinds of lines by these counts.
use Rattle.std.specs.Prelude.{◌≡◌, ℕ, ◌-◌, List, ◌∷◌, ◌++◌}
use Rattle.std.specs.List.{count_by}
use Rattle.wt_span.specs.Items.{Item}
use Rattle.wt_tables.specs.Extents.{is_open, is_end}
use Rattle.wt_tables.specs.Parts.{joined}
use Rattle.wt_page.specs.Lines.{kind_at}
use Rattle.wt_page.specs.Rows.{Row, all_items, line_rows, rows_from}

-- how many rows open a table
abbrev pub opened : List Row → ℕ
opened rs = count_by (λ r. is_open r.kind) rs

-- how many rows end one
abbrev pub ended : List Row → ℕ
ended rs = count_by (λ r. is_end r.kind) rs

-- A line's kind is that at which so many tables are open as the rows before it have opened, less those that they have ended; by
-- it the line makes its rows, which are between the rows of the lines before it and the others.
pub record KindIsCounted (ls : List (List Item)) (l : List Item) (ms : List (List Item)) : Type 0 where
  pub before : List Row
  pub others : List Row
  pub of_before : all_items before ≡ joined ls
  pub are_rows : rows_from 0 (ls ++ l ∷ ms) ≡ before ++ (line_rows (kind_at (opened before - ended before) l) l ++ others)
