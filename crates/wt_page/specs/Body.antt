-- What is in a body or in a cell: its rows, cut into blocks. A table is one block with all its rows.
use Rattle.std.specs.Prelude.{◌≡◌, ℕ, zero, suc, ◌&&◌, ◌||◌, Bool, true, false, List, [], ◌∷◌}
use Rattle.std.specs.List.{flat_map}
use Rattle.wt_tree.specs.declared.kind.Kind.TheVariants as kind
use Rattle.wt_span.specs.Items.{Item}
use Rattle.wt_span.specs.Runs.{runs, AreRuns}
use Rattle.wt_lines.specs.declared.kind.LineKind.{LineKind}
use Rattle.wt_lines.specs.declared.kind.LineKind.TheVariants as line
use Rattle.wt_lines.specs.declared.kind.TheConstants.{MOST_TABLES}
use Rattle.wt_lines.specs.Lines.{goes_on}
use Rattle.wt_blocks.specs.Paragraphs.{is_text}
use Rattle.wt_tables.specs.Parts.{joined, units, unit_kind}
use Rattle.wt_inline.specs.ItemTree.{plain, ItemTree, inner, forest}
use Rattle.wt_inline.specs.Parts.{Part, AreChildren}
use Rattle.wt_page.specs.Headings.{heading}
use Rattle.wt_page.specs.Rows.{Row, kind_of, rows_from, rows}
use Rattle.wt_page.specs.Stretches.{Stretch, stretches_parts, node_of}
use Rattle.wt_page.specs.Texts.{with_separators, para, pre, rule}
use Rattle.wt_page.specs.Lists.{lists}
use Rattle.wt_page.specs.Tables.{Reading, gaps, table}

abbrev pub is_list_line : LineKind → Bool
is_list_line line.Blank = false
is_list_line line.TableOpen = false
is_list_line line.TableEnd = false
is_list_line line.Caption = false
is_list_line line.Row = false
is_list_line line.Cell = false
is_list_line line.Header = false
is_list_line line.Heading = false
is_list_line line.Rule = false
is_list_line line.List = true
is_list_line line.Pre = false
is_list_line line.Text = false

abbrev pub is_pre_line : LineKind → Bool
is_pre_line line.Blank = false
is_pre_line line.TableOpen = false
is_pre_line line.TableEnd = false
is_pre_line line.Caption = false
is_pre_line line.Row = false
is_pre_line line.Cell = false
is_pre_line line.Header = false
is_pre_line line.Heading = false
is_pre_line line.Rule = false
is_pre_line line.List = false
is_pre_line line.Pre = true
is_pre_line line.Text = false

-- neighbouring lines of one block: text, preformatted text, or lists
abbrev pub one_block : LineKind → LineKind → Bool
one_block k j = (is_text k && is_text j) || ((is_pre_line k && is_pre_line j) || (is_list_line k && is_list_line j))

-- a unit is a row, or all rows of a table
abbrev pub same_block : List Row → List Row → Bool
same_block u v = one_block (unit_kind kind_of u) (unit_kind kind_of v)

-- ---- blocks

abbrev pub rule_row : Row → List Stretch
rule_row r = with_separators (rule r.items) (r ∷ [])

abbrev pub heading_row : Row → List Stretch
heading_row r = with_separators (heading r.items) (r ∷ [])

-- The table of blocks, where blocks in cells are read so. The lines that a table is made of are in tables alone, so those that
-- would be left over are read as text.
abbrev pub block_stretches : Reading → LineKind → List Row → List Stretch
block_stretches read line.Blank rs = gaps rs
block_stretches read line.TableOpen rs = table read rs
block_stretches read line.TableEnd rs = with_separators (para rs) rs
block_stretches read line.Caption rs = with_separators (para rs) rs
block_stretches read line.Row rs = with_separators (para rs) rs
block_stretches read line.Cell rs = with_separators (para rs) rs
block_stretches read line.Header rs = with_separators (para rs) rs
block_stretches read line.Heading rs = flat_map heading_row rs
block_stretches read line.Rule rs = flat_map rule_row rs
block_stretches read line.List rs = lists rs
block_stretches read line.Pre rs = with_separators (pre rs) rs
block_stretches read line.Text rs = with_separators (para rs) rs

abbrev pub run_stretches : Reading → List (List Row) → List Stretch
run_stretches read us = block_stretches read (unit_kind kind_of (joined us)) (joined us)

abbrev pub blocks_by : Reading → Reading
blocks_by read = λ rs. flat_map (run_stretches read) (runs same_block (units kind_of rs))

-- rows in which so many tables may be one inside the other
abbrev pub within : ℕ → Reading
within zero = blocks_by gaps
within (suc n) = blocks_by (within n)

-- the blocks of rows, with the separators between them
unfoldable pub blocks : Reading
blocks rs = within MOST_TABLES rs

-- what is in a body
abbrev pub body_parts : List Row → List Part
body_parts rs = stretches_parts (blocks rs)

unfoldable pub meaning : List Item → ItemTree
meaning xs = node_of (plain kind.Body) [] (blocks (rows xs)) []

-- The same as a relation, by cuts that exist: this tree is the meaning where the items can be cut into lines, these into units of rows
-- and the units into blocks, and the parts that these give into leaves, each cut standing exactly where two neighbours don't belong
-- together.
pub record IsMeaning (t : ItemTree) (xs : List Item) : Type 0 where
  pub its_lines : List (List Item)
  pub its_units : List (List Row)
  pub its_blocks : List (List (List Row))
  pub its_children : List ItemTree
  pub are_lines : AreRuns goes_on its_lines xs
  pub are_units : its_units ≡ units kind_of (rows_from 0 its_lines)
  pub are_blocks : AreRuns same_block its_blocks its_units
  pub are_children : AreChildren its_children (stretches_parts (flat_map (run_stretches (within 15)) its_blocks))
  pub is_body : t ≡ inner (plain kind.Body) [] (forest its_children) []
