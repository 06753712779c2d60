-- Worked cases of what is round a paragraph in a cell, by computing.
use Rattle.std.proofs.Common.{ℕ, List, [], ◌∷◌, refl, arith}
use Rattle.std.specs.Prelude.{codes}
use Rattle.wt_span.specs.Comments.{comment_len, comment_line_len}
use Rattle.wt_span.specs.Entities.{named_entity, entity_names, decimal_entity, hex_entity, entity_at}
use Rattle.wt_span.specs.Lexemes.{sign_word, form_at, closed, words}
use Rattle.wt_span.specs.Tags.{opening_tag, closing_tag, raw_len, include_at}
use Rattle.wt_lines.specs.declared.kind.LineKind.{LineKind}
use Rattle.wt_lines.specs.declared.kind.LineKind.TheVariants as line
use Rattle.wt_lines.specs.Kinds.{kind_of_signs}
use Rattle.wt_expand.specs.PageItems.{page_items}
use Rattle.wt_page.specs.Rows.{Row}
use Rattle.wt_part_laws.specs.Rounds.{TableRound, AreContent, IsTableRound}
use Rattle.wt_text_edit_laws.specs.LonePages.{page_chars}
use Rattle.wt_called_edit_laws.specs.HeadingsInCells.{IsHeadingInCell}
use Rattle.wt_called_edit_laws.specs.InCells.{IsInCell}

abbrev line_row : LineKind → List ℕ → List ℕ → Row
line_row k sign end = record { kind = k; lead = []; items = page_chars sign; ending = page_chars end }

-- a table that has nothing but the cell
abbrev small_table : List ℕ → TableRound
small_table end = record {
  before = [];
  first = line_row line.TableOpen (codes "{|") (codes "\n");
  inside = [];
  cell = line_row line.Cell (codes "|") (codes "\n");
  further = [];
  last = line_row line.TableEnd (codes "|}") end;
  behind = [];
}

no_rows : AreContent []
no_rows = record { level = tt; plain = tt }

is_small : (end : List ℕ) → IsTableRound (small_table end)
is_small end = record { before = no_rows; opens = refl; inside = tt; of_cells = refl; further = tt; begins = tt; ends = refl; behind = no_rows }

-- a paragraph that is all a cell has
pub in_a_cell : IsInCell (page_items (codes "{|\n|\n")) (page_items (codes "\n|}"))
unfolding page_items words closed form_at comment_len comment_line_len raw_len opening_tag closing_tag include_at entity_at named_entity decimal_entity
    hex_entity entity_names sign_word kind_of_signs
in_a_cell = record {
  tables = small_table [] ∷ [];
  front = [];
  back = [];
  whole = refl;
  are_before = refl;
  are_behind = (refl, refl);
  few = omega arith;
  rounds = (is_small [], tt);
  front_content = no_rows;
  back_content = no_rows;
  front_apart = tt;
  back_apart = tt;
}

-- in a cell of a table in a cell
in_two_cells : IsInCell (page_items (codes "{|\n|\n{|\n|\n")) (page_items (codes "\n|}\n|}"))
unfolding page_items words closed form_at comment_len comment_line_len raw_len opening_tag closing_tag include_at entity_at named_entity decimal_entity
    hex_entity entity_names sign_word kind_of_signs
in_two_cells = record {
  tables = small_table [] ∷ small_table (codes "\n") ∷ [];
  front = [];
  back = [];
  whole = refl;
  are_before = refl;
  are_behind = (refl, refl);
  few = omega arith;
  rounds = (is_small [], (is_small (codes "\n"), tt));
  front_content = no_rows;
  back_content = no_rows;
  front_apart = tt;
  back_apart = tt;
}

-- A heading in a cell, directly below a line of text.
heading_below_text : IsHeadingInCell (page_items (codes "{|\n|\na\n")) (page_items (codes "\n|}"))
unfolding page_items words closed form_at comment_len comment_line_len raw_len opening_tag closing_tag include_at entity_at named_entity decimal_entity
    hex_entity entity_names sign_word kind_of_signs
heading_below_text = record {
  tables = small_table [] ∷ [];
  front = line_row line.Text (codes "a") (codes "\n") ∷ [];
  back = [];
  whole = refl;
  are_before = refl;
  are_behind = (refl, refl);
  few = omega arith;
  rounds = (is_small [], tt);
  front_content = record { level = ((λ e. absurd (cc)), tt); plain = (refl, tt) };
  back_content = no_rows;
}
