-- A heading in a cell of a table, and what may stand before and behind it.
use Rattle.std.specs.Prelude.{◌≡◌, ℕ, ◌≤◌, List, [], ◌∷◌, ◌++◌, length}
use Rattle.std.specs.List.{AllByRecursion}
use Rattle.wt_span.specs.Items.{Item}
use Rattle.wt_lines.specs.declared.kind.TheConstants.{MOST_TABLES}
use Rattle.wt_lines.specs.Lines.{empty_end, full_lines}
use Rattle.wt_inline.specs.ItemTree.{ItemTree}
use Rattle.wt_page.specs.Rows.{Row}
use Rattle.wt_page.specs.Body.{meaning}
use Rattle.wt_expand.specs.PageItems.{page_items}
use Rattle.wt_part_laws.specs.Rounds.{Holder, round, AreCellHolders, TableRound, AreContent, IsTableRound}
use Rattle.wt_text_edit_laws.specs.ParagraphBetween.{written_rows, body_with}
use Rattle.wt_text_edit_laws.specs.TextBlocks.{a_heading, IsBlock}
use Rattle.wt_text_edit_laws.specs.TypedHeadings.{Sides, heading_line, heading_with}
use Rattle.wt_called_edit_laws.specs.InCells.{rows_before, rows_behind, open_tables, AreBehind}

-- Whole lines and what follows a heading behind them: in each table that is open there, the last line that begins a part of it is one of cells.
-- Beside the heading may be any lines.
pub record IsHeadingInCell (xs tail : List Item) : Type 0 where
  pub tables : List TableRound
  pub front : List Row
  pub back : List Row
  pub whole : empty_end xs ≡ [] ∷ []
  pub are_before : written_rows 0 (full_lines xs) ≡ rows_before tables front
  pub are_behind : AreBehind (open_tables xs) tail (rows_behind tables back)
  pub few : length tables ≤ MOST_TABLES
  pub rounds : AllByRecursion IsTableRound tables
  pub front_content : AreContent front
  pub back_content : AreContent back

-- Whatever its text and its level are, typed or written by hand, the heading is in the same nodes, which are a child of the body, and what is
-- before and behind it is the same, too.
pub record HeadingStandsInCell (xs tail : List Item) : Type 0 where
  pub before : List ItemTree
  pub holders : List Holder
  pub behind : List ItemTree
  pub of_cells : AreCellHolders holders
  pub stands : (s : Sides) (q : List ℕ) → IsBlock (a_heading s) q
      → meaning (xs ++ (heading_line s (page_items q) ++ tail)) ≡ body_with (before ++ round holders (heading_with s (page_items q)) ∷ behind)
