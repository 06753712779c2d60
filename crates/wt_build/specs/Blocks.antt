-- Blocks in code: rows of one block, and what they give.
use Rattle.std.specs.Prelude.{◌≡◌, ◌<◌, ℕ, Bool, true, false, List, [], ◌∷◌, ◌++◌, All, length, take, drop, ◌≤◌, zero, suc, codes}
use Rattle.std.specs.List.{prefix_len}
use Rattle.wt_lines.specs.declared.kind.LineKind.{LineKind}
use Rattle.wt_lines.specs.declared.kind.LineKind.TheVariants as line
use Rattle.wt_inline.specs.Parts.{Part}
use Rattle.wt_rows.specs.declared.row.RowAt.{RowAt}
use Rattle.wt_build.specs.declared.text.TextKind.{TextKind}
use Rattle.wt_build.specs.declared.text.TextKind.TheVariants as text
use Rattle.wt_span.specs.declared.form.Piece.{Piece}
use Rattle.wt_tables.specs.Parts.{unit_kind}
use Rattle.wt_inline.specs.ItemTree.{ItemTree}
use Rattle.wt_page.specs.Headings.{heading}
use Rattle.wt_page.specs.Rows.{Row, kind_of, signs}
use Rattle.wt_page.specs.Stretches.{Stretch}
use Rattle.wt_page.specs.Texts.{later_parts, later_line, later_pre, para, pre, rule}
use Rattle.wt_page.specs.Tables.{Reading, first_items, gaps}
use Rattle.wt_page.specs.Body.{one_block, block_stretches, blocks_by, within}
use Rattle.wt_rows.specs.Views.{rows_view}
use Rattle.wt_rows.specs.Units.{kind_at}
use Rattle.wt_span.specs.Bytes.{begins}

-- ---- text

-- its places are in order
pub record IsOrdered (r : RowAt) : Type 0 where
  pub lead : r.start ≤ r.from
  pub items : r.from ≤ r.to

-- it begins with a space
abbrev pub IsSpaced : Row → Type 0
IsSpaced r = begins (codes " ") (signs r.items) ≡ true

-- how a later line is read
abbrev pub later_of : TextKind → Row → List Part
later_of text.Para r = later_line r
later_of text.Pre r = later_pre r

-- a line of preformatted text is of that kind
abbrev pub IsOf : TextKind → RowAt → Type 0
IsOf text.Para r = Unit {0}
IsOf text.Pre r = r.kind ≡ line.Pre

abbrev pub AreOf : TextKind → List RowAt → Type 0
AreOf k rs = All (IsOf k) rs

-- what rows hold of which the first is read
abbrev pub later_from : TextKind → List Row → List Part
later_from k [] = []
later_from k (r ∷ rs) = later_parts (later_of k) r.ending rs

-- ---- blocks

-- how cells are read in which so many tables may be one inside the other
abbrev pub reading_at : ℕ → Reading
reading_at zero = gaps
reading_at (suc n) = within n

-- the rows are lines of lists
abbrev pub AreListRows : List RowAt → Type 0
AreListRows rs = All (λ r. r.kind ≡ line.List) rs

-- how many of these rows make one block with a row of this kind before them
abbrev pub joined_len : LineKind → List RowAt → ℕ
joined_len k rs = prefix_len (λ r. one_block k r.kind) rs

-- what rows give that are one block
abbrev pub run_of : Reading → List Row → List Stretch
run_of read rs = block_stretches read (unit_kind kind_of rs) rs

-- so many rows are the first block, however blocks in cells are read
abbrev pub IsBlockLen : List RowAt → ℕ → Type 0
IsBlockLen rs n = (read : Reading) (ps : List Piece)
    → blocks_by read (rows_view ps rs) ≡ run_of read (rows_view ps (take n rs)) ++ blocks_by read (rows_view ps (drop n rs))

-- a row that is a block by itself
abbrev pub is_lone : LineKind → Bool
is_lone line.Blank = true
is_lone line.TableOpen = false
is_lone line.TableEnd = false
is_lone line.Caption = false
is_lone line.Row = false
is_lone line.Cell = false
is_lone line.Header = false
is_lone line.Heading = true
is_lone line.Rule = true
is_lone line.List = false
is_lone line.Pre = false
is_lone line.Text = false

-- blank lines, headings and rules are alone, and lines of lists and of preformatted text among such
pub record AreOneBlock (k : LineKind) (rs : List RowAt) : Type 0 where
  pub some : 0 < length rs
  pub kind : unit_kind kind_at rs ≡ k
  pub lone : is_lone k ≡ true → length rs ≡ 1
  pub pre : k ≡ line.Pre → AreOf text.Pre rs
  pub lists : k ≡ line.List → AreListRows rs

-- blocks that are one node with separators round it
abbrev pub IsNodeKind : LineKind → Type 0
IsNodeKind line.Blank = ⊥
IsNodeKind line.TableOpen = ⊥
IsNodeKind line.TableEnd = Unit {0}
IsNodeKind line.Caption = Unit {0}
IsNodeKind line.Row = Unit {0}
IsNodeKind line.Cell = Unit {0}
IsNodeKind line.Header = Unit {0}
IsNodeKind line.Heading = Unit {0}
IsNodeKind line.Rule = Unit {0}
IsNodeKind line.List = ⊥
IsNodeKind line.Pre = Unit {0}
IsNodeKind line.Text = Unit {0}

-- the node of a block that is no list and no table
abbrev pub block_node : LineKind → List Row → ItemTree
block_node line.Blank rs = para rs
block_node line.TableOpen rs = para rs
block_node line.TableEnd rs = para rs
block_node line.Caption rs = para rs
block_node line.Row rs = para rs
block_node line.Cell rs = para rs
block_node line.Header rs = para rs
block_node line.Heading rs = heading (first_items rs)
block_node line.Rule rs = rule (first_items rs)
block_node line.List rs = para rs
block_node line.Pre rs = pre rs
block_node line.Text rs = para rs
