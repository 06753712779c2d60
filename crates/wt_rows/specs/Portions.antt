-- Portions of a page: rows after which no table is open, before an empty line or at the end. The blocks of a page are those of its
-- portions, with the empty lines between them as gaps.
use Rattle.std.specs.Prelude.{◌≡◌, ◌≤◌, ◌⊎◌, ℕ, true, List, [], ◌∷◌, ◌++◌, All}
use Rattle.wt_span.specs.Items.{Item, items}
use Rattle.wt_span.specs.Origins.{IsSoundPiece}
use Rattle.wt_lines.specs.declared.kind.TheConstants.{MOST_TABLES}
use Rattle.wt_tables.specs.Extents.{behind}
use Rattle.wt_page.specs.Rows.{Row, rows}
use Rattle.wt_page.specs.Body.{body_parts}
use Rattle.wt_rows.specs.declared.portion.Portion.{Portion}
use Rattle.wt_rows.specs.Building.{ArePageRows, made_rows, IsRowsSoFar}
use Rattle.wt_rows.specs.Unread.{left, begins_break}

-- how many tables are open after rows, before which so many are
abbrev pub open_behind : ℕ → List Row → ℕ
open_behind n [] = n
open_behind n (r ∷ rs) = open_behind (behind n r.kind) rs

pub record IsPortion (s : Portion) : Type 0 where
  pub few : s.tables ≤ MOST_TABLES
  pub rows_ready : ArePageRows s.made
  pub count : open_behind 0 (made_rows s.made) ≡ s.tables
  pub sound : All IsSoundPiece (left s.rest)

-- its rows and those of what is left are all
abbrev pub IsPortionOf : List Row → Portion → Type 0
IsPortionOf all s = IsRowsSoFar (made_rows s.made) s.tables (left s.rest) all

-- all is read, or an empty line comes that is in no table
abbrev pub IsEnd : Portion → Type 0
IsEnd s = (left s.rest ≡ []) ⊎ ((s.tables ≡ 0) × (begins_break (items (left s.rest)) ≡ true))

-- the parts of a body are those of these rows, and then those of the items after them
abbrev pub AreFirst : List Row → List Item → List Item → Type 0
AreFirst rs xs ys = body_parts (rows xs) ≡ body_parts rs ++ body_parts (rows ys)
