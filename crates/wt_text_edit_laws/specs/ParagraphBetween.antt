-- A typed paragraph of a page, and what may stand before and behind it so that neither becomes a part of the other.
use Rattle.std.specs.Prelude.{◌≡◌, ℕ, false, None, List, [], ◌∷◌, ◌++◌, if◌then◌else◌}
use Rattle.std.specs.List.{list_all}
use Rattle.wt_span.specs.Characters as byte
use Rattle.wt_tree.specs.declared.kind.Kind.TheVariants as kind
use Rattle.wt_span.specs.Items.{Item, char, is_mark}
use Rattle.wt_lines.specs.Lines.{empty_end, full_lines}
use Rattle.wt_blocks.specs.Paragraphs.{is_text}
use Rattle.wt_tables.specs.Extents.{behind}
use Rattle.wt_inline.specs.ItemTree.{plain, ItemTree, inner, forest}
use Rattle.wt_inline.specs.Parts.{children}
use Rattle.wt_page.specs.Lines.{kind_at}
use Rattle.wt_page.specs.Rows.{Row, line_rows, rows}
use Rattle.wt_page.specs.Body.{body_parts}
use Rattle.wt_text_edit_laws.specs.LonePages.{para_of}

-- ---- lines

-- the rows of whole lines, at the first of which so many tables are open
abbrev pub written_rows : ℕ → List (List Item) → List Row
written_rows tables [] = []
written_rows tables (l ∷ ls) = line_rows (kind_at tables l) l ++ written_rows (behind tables (kind_at tables l)) ls

-- and how many are open after the last
abbrev pub tables_behind : ℕ → List (List Item) → ℕ
tables_behind tables [] = tables
tables_behind tables (l ∷ ls) = tables_behind (behind tables (kind_at tables l)) ls

abbrev pub rows_of_lines : List Item → List Row
rows_of_lines xs = written_rows 0 (full_lines xs)

-- Whole lines, or nothing, behind which no table is open.
pub record AreClosed (xs : List Item) : Type 0 where
  pub whole : empty_end xs ≡ [] ∷ []
  pub closed : tables_behind 0 (full_lines xs) ≡ 0

-- What comes before the comments at the end. A line of comments has its line break in it, so it belongs to the line behind it, and stands
-- above the block that begins there; and so do comments and include tags on the block's own line.
abbrev pub before_marks : List Item → List Item
before_marks [] = []
before_marks (x ∷ xs) = if list_all is_mark (x ∷ xs) then [] else x ∷ before_marks xs

-- ---- before a paragraph

-- the last row isn't text
abbrev pub EndApart : List Row → Type 0
EndApart [] = Unit {0}
EndApart (r ∷ []) = is_text r.kind ≡ false
EndApart (r ∷ s ∷ rs) = EndApart (s ∷ rs)

-- Such lines, of which the last is no text: an empty line, a heading, a list, the end of a table, a rule, or preformatted text.
pub record EndsApart (xs : List Item) : Type 0 where
  pub are_closed : AreClosed (before_marks xs)
  pub apart : EndApart (rows_of_lines (before_marks xs))

-- ---- behind a paragraph

-- the first row isn't text
abbrev pub BeginApart : List Row → Type 0
BeginApart [] = Unit {0}
BeginApart (r ∷ rs) = is_text r.kind ≡ false

-- A paragraph ends at the page's end, or with a line break behind which the page ends or something else than text begins: an empty line,
-- a heading, a list, a table.
abbrev pub EndsParagraph : List Item → Type 0
EndsParagraph [] = Unit {0}
EndsParagraph (y ∷ ys) = (y ≡ char None byte.line_break) × BeginApart (rows ys)

-- ---- the page

-- the blocks that items make by themselves, with the separators round them
abbrev pub blocks_in : List Item → List ItemTree
blocks_in xs = children (body_parts (rows xs))

-- a body with these blocks
abbrev pub body_with : List ItemTree → ItemTree
body_with ts = inner (plain kind.Body) [] (forest ts) []

-- and with a paragraph between
abbrev pub body_round : List ItemTree → List Item → List ItemTree → ItemTree
body_round us own vs = body_with (us ++ para_of own ∷ vs)
