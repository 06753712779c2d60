-- Any number of paragraphs and headings of a page where they are in it, by the page's lines: in the body, in cells and in captions.
use Rattle.std.specs.Prelude.{◌≡◌, ◌≤◌, ℕ, true, Bool, List, [], ◌∷◌, ◌++◌, length}
use Rattle.std.specs.List.{list_all}
use Rattle.std.specs.Str.{IsUtf8}
use Rattle.wt_span.specs.Items.{Item, is_mark, sources}
use Rattle.wt_expand.specs.PageItems.{page_items}
use Rattle.wt_lines.specs.Lines.{content, full_lines}
use Rattle.wt_page.specs.Lines.{ending}
use Rattle.wt_tables.specs.Parts.{joined}
use Rattle.wt_page.specs.Rows.{Row, marks_len, rows_from}
use Rattle.wt_part_laws.specs.Slots.{AllTrue}
use Rattle.wt_text_edit_laws.specs.BlockSpots.{BlockSpot}
use Rattle.wt_text_edit_laws.specs.PageCuts.{AreBlockItems, EndClosed}
use Rattle.wt_text_edit_laws.specs.NoCalls.{CallsNothing}
use Rattle.wt_text_edit_laws.specs.Parts.{HasNoGroups}
use Rattle.wt_text_edit_laws.specs.ParagraphBetween.{written_rows, BeginApart}
use Rattle.wt_text_edit_laws.specs.TextBlocks.{TextBlock, a_paragraph, a_heading}
use Rattle.wt_called_edit_laws.specs.AnyBlocks.{open_after, EndsFor, NextApart}
use Rattle.wt_called_edit_laws.specs.PlacedSpots.{AreShut}
use Rattle.wt_called_edit_laws.specs.SignLines.{front_lines, IsSignFor, IsApartFrom, AreLinesOn}

-- A block with its lines, and those before it, behind the one before or at the page's start; and the marks that begin its first line. Before these is the sign
-- of a table's end, or nothing.
pub record LinedBlock : Type 0 where
  pub before : List (List Item)
  pub sign : List Item
  pub marks : List Item
  pub block : TextBlock
  pub text : List ℕ
  pub first : List Item
  pub more : List (List Item)

-- what is before it on its first line
abbrev pub lead_of : LinedBlock → List Item
lead_of b = b.sign ++ b.marks

abbrev pub all_lines : List LinedBlock → List (List Item) → List (List Item)
all_lines [] behind = behind
all_lines (b ∷ bs) behind = b.before ++ (((lead_of b ++ b.first) ∷ b.more) ++ all_lines bs behind)

-- as parts of a page, where this is left of the line before
abbrev pub spots_by : List Item → List LinedBlock → List BlockSpot
spots_by es [] = []
spots_by es (b ∷ bs) =
    record { before = sources (es ++ (joined b.before ++ lead_of b)); block = b.block; text = b.text } ∷ spots_by (ending (joined (b.first ∷ b.more))) bs

abbrev pub end_by : List Item → List LinedBlock → List (List Item) → List ℕ
end_by es [] behind = sources (es ++ joined behind)
end_by es (b ∷ bs) behind = end_by (ending (joined (b.first ∷ b.more))) bs behind

-- ---- where they stand

-- the rows of the lines before it and of the sign
abbrev pub front_rows : ℕ → LinedBlock → List Row
front_rows n b = written_rows n (front_lines b.before b.sign)

-- its own lines, behind this sign, where so many tables are open
abbrev pub OwnLined : List Item → TextBlock → ℕ → List ℕ → List (List Item) → Type 0
OwnLined sign a_paragraph n q ls = AreLinesOn sign n ls × (marks_len (content (joined ls)) ≡ 0) × (sources (content (joined ls)) ≡ q)
OwnLined sign (a_heading s) n q ls = AreBlockItems (a_heading s) q (content (joined ls))

-- In the body, in a cell or in a caption, and before a paragraph is no text. Marks may begin its line, the last of which ends with a `>` or a line break. Before
-- a paragraph that begins with no `}` a table may end on its line.
pub record IsLinedAt (open_tables : List Bool) (b : LinedBlock) : Type 0 where
  pub sign : IsSignFor b.block (length open_tables) b.before b.sign
  pub unclosed : IsApartFrom b.sign b.text
  pub are_marks : list_all is_mark b.marks ≡ true
  pub some : 1 ≤ length b.first
  pub in_cells : AllTrue (open_after open_tables (front_rows (length open_tables) b))
  pub apart : EndsFor b.block (front_rows (length open_tables) b)
  pub own : OwnLined b.sign b.block (length (open_after open_tables (front_rows (length open_tables) b))) b.text (b.first ∷ b.more)

-- behind a paragraph is no text
abbrev pub LinesApart : TextBlock → ℕ → List (List Item) → Type 0
LinesApart a_paragraph n ls = BeginApart (rows_from n ls)
LinesApart (a_heading s) n ls = Unit {0}

abbrev pub AreLinedAfter : TextBlock → List Bool → List LinedBlock → List (List Item) → Type 0
AreLinedAfter last open_tables [] behind = LinesApart last (length open_tables) behind
AreLinedAfter last open_tables (b ∷ bs) behind =
    NextApart last b.block (front_rows (length open_tables) b) × IsLinedAt open_tables b
    × AreLinedAfter b.block (open_after open_tables (front_rows (length open_tables) b)) bs behind

-- there is one at least
abbrev pub AreLined : List LinedBlock → List (List Item) → Type 0
AreLined [] behind = ⊥
AreLined (b ∷ bs) behind = IsLinedAt [] b × AreLinedAfter b.block (open_after [] (front_rows 0 b)) bs behind

-- The page calls nothing, and no node of it can only be kept as a whole. Its lines are those of these blocks, and those beside them; no tag is open in a
-- block, and where one ends the page, it holds no comment and no hidden part that nothing ends.
pub record IsLinedPage (page : List ℕ) (bs : List LinedBlock) (behind : List (List Item)) : Type 0 where
  pub utf8 : IsUtf8 page
  pub calls_nothing : CallsNothing (page_items page)
  pub ungrouped : HasNoGroups page
  pub closed : EndClosed (spots_by [] bs) (end_by [] bs behind)
  pub are : full_lines (page_items page) ≡ all_lines bs behind
  pub lined : AreLined bs behind
  pub shut : AreShut (spots_by [] bs)
