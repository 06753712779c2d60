-- A typed paragraph in a cell of a table, and what may stand before and behind it.
use Rattle.std.specs.Prelude.{◌≡◌, ℕ, ◌≤◌, None, List, [], ◌∷◌, ◌++◌, All, length, replicate}
use Rattle.std.specs.List.{AllByRecursion}
use Rattle.wt_span.specs.Characters as byte
use Rattle.wt_span.specs.Items.{Item, char}
use Rattle.wt_lines.specs.declared.kind.LineKind.TheVariants as line
use Rattle.wt_lines.specs.declared.kind.TheConstants.{MOST_TABLES}
use Rattle.wt_lines.specs.Kinds.{line_kind}
use Rattle.wt_lines.specs.Lines.{lines, empty_end, full_lines}
use Rattle.wt_inline.specs.ItemTree.{ItemTree}
use Rattle.wt_page.specs.Rows.{Row, unwritten_end, rows_from}
use Rattle.wt_page.specs.Body.{meaning}
use Rattle.wt_expand.specs.PageItems.{page_items}
use Rattle.wt_part_laws.specs.Blocks.{BeginOtherwise}
use Rattle.wt_part_laws.specs.Rounds.{Holder, round, AreCellHolders, TableRound, AreContent, IsTableRound, EndOtherwise}
use Rattle.wt_text_edit_laws.specs.LonePages.{para_of}
use Rattle.wt_text_edit_laws.specs.Paragraphs.{IsParagraph}
use Rattle.wt_text_edit_laws.specs.ParagraphBetween.{written_rows, tables_behind, body_with}

-- ---- rows round a place in cells

-- those before it, and those behind it
abbrev pub rows_before : List TableRound → List Row → List Row
rows_before [] front = front
rows_before (t ∷ ts) front = t.before ++ (t.first ∷ (t.inside ++ (t.cell ∷ rows_before ts front)))

abbrev pub rows_behind : List TableRound → List Row → List Row
rows_behind [] back = back
rows_behind (t ∷ ts) back = rows_behind ts back ++ (t.further ++ (t.last ∷ t.behind))

-- ---- lines round it

-- how many tables are open behind whole lines
abbrev pub open_tables : List Item → ℕ
open_tables xs = tables_behind 0 (full_lines xs)

-- The rows of what follows a paragraph at which so many tables are open: of a line break and the lines behind it, or of the page's end, where
-- the tables end that no line ends.
abbrev pub AreBehind : ℕ → List Item → List Row → Type 0
AreBehind n [] rs = replicate n unwritten_end ≡ rs
AreBehind n (y ∷ ys) rs = (y ≡ char None byte.line_break) × (rows_from n (full_lines ys) ≡ rs)

-- Whole lines and what follows a paragraph behind them: in each table that is open there, the last line that begins a part of it is one of cells,
-- and beside the paragraph is no text.
pub record IsInCell (xs tail : List Item) : Type 0 where
  pub tables : List TableRound
  pub front : List Row
  pub back : List Row
  pub whole : empty_end xs ≡ [] ∷ []
  pub are_before : written_rows 0 (full_lines xs) ≡ rows_before tables front
  pub are_behind : AreBehind (open_tables xs) tail (rows_behind tables back)
  pub few : length tables ≤ MOST_TABLES
  pub rounds : AllByRecursion IsTableRound tables
  pub front_content : AreContent front
  pub back_content : AreContent back
  pub front_apart : EndOtherwise line.Text front
  pub back_apart : BeginOtherwise line.Text back

-- ---- the paragraph

-- each of its lines is text where so many tables are open: it begins with no sign of a table
abbrev pub AreTextLines : ℕ → List Item → Type 0
AreTextLines n xs = All (λ l. line_kind n l ≡ line.Text) (lines xs)

-- Whatever the text is, the paragraph is in the same nodes, which are a child of the body, and what is before and behind it is the same, too.
pub record StandsInCell (xs tail : List Item) : Type 0 where
  pub before : List ItemTree
  pub holders : List Holder
  pub behind : List ItemTree
  pub of_cells : AreCellHolders holders
  pub stands : (q : List ℕ) → IsParagraph q → AreTextLines (open_tables xs) (page_items q)
      → meaning (xs ++ (page_items q ++ tail)) ≡ body_with (before ++ round holders (para_of (page_items q)) ∷ behind)
