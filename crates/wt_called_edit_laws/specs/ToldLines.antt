-- Paragraphs and headings of a page that calls nothing, told by nothing but its lines: of a heading's line its delimiters, of lines of text all that
-- they hold.
use Rattle.std.specs.Prelude.{◌≡◌, ◌≤◌, ℕ, true, Bool, List, [], ◌∷◌, length, map}
use Rattle.std.specs.List.{list_all}
use Rattle.std.specs.Str.{IsUtf8}
use Rattle.wt_span.specs.Items.{Item, is_mark, sources}
use Rattle.wt_expand.specs.PageItems.{page_items}
use Rattle.wt_lines.specs.Lines.{content, full_lines}
use Rattle.wt_page.specs.Rows.{Row, marks_len}
use Rattle.wt_part_laws.specs.Slots.{AllTrue}
use Rattle.wt_tables.specs.Parts.{joined}
use Rattle.wt_text_edit_laws.specs.NoCalls.{CallsNothing}
use Rattle.wt_text_edit_laws.specs.PageCuts.{EndClosed}
use Rattle.wt_text_edit_laws.specs.Parts.{HasNoGroups}
use Rattle.wt_text_edit_laws.specs.TextBlocks.{TextBlock, a_paragraph, a_heading}
use Rattle.wt_called_edit_laws.specs.AnyBlocks.{open_after, EndsFor, NextApart}
use Rattle.wt_called_edit_laws.specs.LinedHeadings.{sides_of, text_of, IsLinedHeading}
use Rattle.wt_called_edit_laws.specs.PlacedLines.{LinedBlock, front_rows, all_lines, spots_by, end_by, LinesApart}
use Rattle.wt_called_edit_laws.specs.PlacedSpots.{AreShut}
use Rattle.wt_called_edit_laws.specs.SignLines.{IsSignFor, IsApartFrom, AreLinesOn}

-- what the lines are, with those before them, and what begins the first: the sign of a table's end, or nothing, and marks
pub data Told : Type 0 where
  a_paragraph_of : List (List Item) → List Item → List Item → List Item → List (List Item) → Told
  a_heading_on : List (List Item) → List Item → List Item → Told

-- as a block with its lines
abbrev pub lined : Told → LinedBlock
lined (a_paragraph_of before sign marks first more) =
    record { before = before; sign = sign; marks = marks; block = a_paragraph; text = sources (content (joined (first ∷ more))); first = first; more = more }
lined (a_heading_on before marks l) =
    record { before = before; sign = []; marks = marks; block = a_heading (sides_of (content l)); text = text_of (content l); first = l; more = [] }

-- where so many tables are open
abbrev pub OwnTold : Told → ℕ → Type 0
OwnTold (a_paragraph_of before sign marks first more) n = AreLinesOn sign n (first ∷ more) × (marks_len (content (joined (first ∷ more))) ≡ 0)
OwnTold (a_heading_on before marks l) n = IsLinedHeading n l

abbrev pub rows_before : List Bool → Told → List Row
rows_before open_tables t = front_rows (length open_tables) (lined t)

-- as `IsLinedAt`
pub record IsToldAt (open_tables : List Bool) (t : Told) : Type 0 where
  pub sign : IsSignFor (lined t).block (length open_tables) (lined t).before (lined t).sign
  pub unclosed : IsApartFrom (lined t).sign (lined t).text
  pub are_marks : list_all is_mark (lined t).marks ≡ true
  pub some : 1 ≤ length (lined t).first
  pub in_cells : AllTrue (open_after open_tables (rows_before open_tables t))
  pub apart : EndsFor (lined t).block (rows_before open_tables t)
  pub own : OwnTold t (length (open_after open_tables (rows_before open_tables t)))

abbrev pub AreToldAfter : TextBlock → List Bool → List Told → List (List Item) → Type 0
AreToldAfter last open_tables [] behind = LinesApart last (length open_tables) behind
AreToldAfter last open_tables (t ∷ ts) behind =
    NextApart last (lined t).block (rows_before open_tables t) × IsToldAt open_tables t
    × AreToldAfter (lined t).block (open_after open_tables (rows_before open_tables t)) ts behind

-- there is one at least
abbrev pub AreTold : List Told → List (List Item) → Type 0
AreTold [] behind = ⊥
AreTold (t ∷ ts) behind = IsToldAt [] t × AreToldAfter (lined t).block (open_after [] (rows_before [] t)) ts behind

-- as `IsLinedPage`
pub record IsToldPage (page : List ℕ) (ts : List Told) (behind : List (List Item)) : Type 0 where
  pub utf8 : IsUtf8 page
  pub calls_nothing : CallsNothing (page_items page)
  pub ungrouped : HasNoGroups page
  pub closed : EndClosed (spots_by [] (map lined ts)) (end_by [] (map lined ts) behind)
  pub are : full_lines (page_items page) ≡ all_lines (map lined ts) behind
  pub told : AreTold ts behind
  pub shut : AreShut (spots_by [] (map lined ts))
