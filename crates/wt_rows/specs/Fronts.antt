-- What is taken from the front of a line by its signs: blanks and marks, blanks alone, or the `-` of a rule and of a row.
use Rattle.std.specs.Prelude.{◌<◌, ℕ, ◌+◌, Bool, List, drop}
use Rattle.std.specs.List.{prefix_len}
use Rattle.wt_span.specs.Bytes.{is_blank}
use Rattle.wt_span.specs.Items.{Item}
use Rattle.wt_lines.specs.Kinds.{is_idle}
use Rattle.wt_tables.specs.Cells.{is_dash}
use Rattle.wt_tiles.specs.Cutting.{IsEdgeIn}
use Rattle.wt_page.specs.Rows.{signs}
use Rattle.wt_rows.specs.declared.front.Front.{Front}
use Rattle.wt_rows.specs.declared.front.Front.TheVariants as front

abbrev pub in_front : Front → ℕ → Bool
in_front front.Idle = is_idle
in_front front.Blanks = is_blank
in_front front.Dashes = is_dash

-- how many such items are at the front
abbrev pub front_len : Front → List Item → ℕ
front_len f xs = prefix_len (in_front f) (signs xs)

-- so many items, and those after them
abbrev pub with_front : Front → ℕ → List Item → ℕ
with_front f n xs = n + prefix_len (in_front f) (drop n (signs xs))

-- no character lies on both sides of a cut after them
abbrev pub IsFrontCut : Front → List Item → Type 0
IsFrontCut f xs = 0 < front_len f xs → IsEdgeIn xs (front_len f xs)

-- no character lies on both sides of a cut after so many items and those after them
abbrev pub IsWithCut : Front → ℕ → List Item → Type 0
IsWithCut f n xs = 0 < with_front f n xs → IsEdgeIn xs (with_front f n xs)
