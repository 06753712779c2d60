-- What stands round a paragraph or heading in a cell: rows round rows, and nodes round a node.
use Rattle.std.specs.Prelude.{◌≡◌, ◌⊎◌, Bool, true, false, List, [], ◌∷◌, ◌++◌}
use Rattle.std.specs.List.{AllByRecursion}
use Rattle.wt_tree.specs.declared.kind.Kind.{Kind}
use Rattle.wt_tree.specs.declared.kind.Kind.TheVariants as kind
use Rattle.wt_span.specs.Items.{Item}
use Rattle.wt_lines.specs.declared.kind.LineKind.{LineKind}
use Rattle.wt_lines.specs.declared.kind.LineKind.TheVariants as line
use Rattle.wt_tables.specs.Parts.{units, begins_part, begins_group}
use Rattle.wt_inline.specs.ItemTree.{Head, ItemTree, inner, forest}
use Rattle.wt_page.specs.Headings.{heading}
use Rattle.wt_page.specs.Rows.{Row, kind_of, last_ending}
use Rattle.wt_page.specs.Stretches.{Stretch, tree_block}
use Rattle.wt_page.specs.Texts.{para}
use Rattle.wt_page.specs.Body.{blocks}
use Rattle.wt_part_laws.specs.Blocks.{AllAre}
use Rattle.wt_part_laws.specs.Units.{Level}

-- ---- a place in a tree

abbrev pub IsCellKind : Kind → Type 0
IsCellKind k = (k ≡ kind.Td) ⊎ (k ≡ kind.Th)

-- a node, and what it holds before a place and behind it
pub record Holder : Type 0 where
  pub head : Head
  pub opening : List Item
  pub before : List ItemTree
  pub behind : List ItemTree
  pub closing : List Item

-- a tree at a place in nodes, the outermost of which is first
abbrev pub round : List Holder → ItemTree → ItemTree
round [] t = t
round (h ∷ hs) t = inner h.head h.opening (forest (h.before ++ round hs t ∷ h.behind)) h.closing

-- Tables in cells, one in the other: each table holds a body, this a row, this a cell, and this the next table.
abbrev pub AreCellHolders : List Holder → Type 0
AreCellHolders [] = Unit {0}
AreCellHolders (t ∷ []) = ⊥
AreCellHolders (t ∷ b ∷ []) = ⊥
AreCellHolders (t ∷ b ∷ r ∷ []) = ⊥
AreCellHolders (t ∷ b ∷ r ∷ c ∷ hs) =
    (t.head.kind ≡ kind.Table) × (b.head.kind ≡ kind.Tbody) × (r.head.kind ≡ kind.Tr) × IsCellKind c.head.kind × AreCellHolders hs

-- what rows make: what comes before these nodes, and what comes behind them
pub record Around : Type 0 where
  pub front : List Stretch
  pub holders : List Holder
  pub back : List Stretch

abbrev pub filled : Around → ItemTree → List Stretch
filled a t = a.front ++ tree_block (round a.holders t) ∷ a.back

-- ---- a place in rows

-- A table in a body or a cell: the rows before it, the row that opens it, those up to the line of a cell, this line, and, behind the rows
-- that belong to its last cell, the others up to the row that ends the table, this row, and the rows behind the table.
pub record TableRound : Type 0 where
  pub before : List Row
  pub first : Row
  pub inside : List Row
  pub cell : Row
  pub further : List Row
  pub last : Row
  pub behind : List Row

-- rows in that cell
abbrev pub in_cell : TableRound → List Row → List Row
in_cell t rs = t.before ++ ((t.first ∷ ((t.inside ++ (t.cell ∷ (rs ++ t.further))) ++ t.last ∷ [])) ++ t.behind)

-- and in tables one in the other, the outermost of which is first
abbrev pub in_cells : List TableRound → List Row → List Row
in_cells [] rs = rs
in_cells (t ∷ ts) rs = in_cell t (in_cells ts rs)

-- a line of cells
abbrev pub is_cell : LineKind → Bool
is_cell line.Blank = false
is_cell line.TableOpen = false
is_cell line.TableEnd = false
is_cell line.Caption = false
is_cell line.Row = false
is_cell line.Cell = true
is_cell line.Header = true
is_cell line.Heading = false
is_cell line.Rule = false
is_cell line.List = false
is_cell line.Pre = false
is_cell line.Text = false

-- none of them begins a caption, a row or cells, unless it is in a table among them
abbrev pub BeginNoPart : List Row → Type 0
BeginNoPart rs = AllByRecursion (λ u. begins_group kind_of u ≡ false) (units kind_of rs)

-- they are none, or the first begins a caption, a row or cells
abbrev pub BeginsPart : List Row → Type 0
BeginsPart [] = Unit {0}
BeginsPart (r ∷ rs) = begins_part r.kind ≡ true

-- Rows of a body or a cell: each table that they open they end, and no other.
pub record AreContent (rs : List Row) : Type 0 where
  pub level : Level 0 rs
  pub plain : BeginNoPart rs

-- The other rows of the table are whole, too, and those behind the cell begin another one, or a caption or row.
pub record IsTableRound (t : TableRound) : Type 0 where
  pub before : AreContent t.before
  pub opens : t.first.kind ≡ line.TableOpen
  pub inside : Level 0 t.inside
  pub of_cells : is_cell t.cell.kind ≡ true
  pub further : Level 0 t.further
  pub begins : BeginsPart t.further
  pub ends : t.last.kind ≡ line.TableEnd
  pub behind : AreContent t.behind

-- ---- a block there

-- the last of them is of another kind
abbrev pub EndOtherwise : LineKind → List Row → Type 0
EndOtherwise k [] = Unit {0}
EndOtherwise k (r ∷ []) = r.kind ≡ k → ⊥
EndOtherwise k (r ∷ s ∷ rs) = EndOtherwise k (s ∷ rs)

-- rows of text, with these separators before the first and behind the last
abbrev pub AreTexts : List Item → List Item → List Row → Type 0
AreTexts lead ending [] = ⊥
AreTexts lead ending (r ∷ rs) = AllAre line.Text (r ∷ rs) × (r.lead ≡ lead) × (last_ending (r ∷ rs) ≡ ending)

-- Whatever rows of text there are between these rows in these cells, they make one paragraph, and it is at the same place in the same nodes.
pub record ParagraphStands (ts : List TableRound) (xs ys : List Row) (lead ending : List Item) : Type 0 where
  pub around : Around
  pub of_cells : AreCellHolders around.holders
  pub stands : (rs : List Row) → AreTexts lead ending rs → blocks (in_cells ts (xs ++ (rs ++ ys))) ≡ filled around (para rs)

-- a row that is a heading, with these separators before and behind it
pub record IsHeading (lead ending : List Item) (r : Row) : Type 0 where
  pub is : r.kind ≡ line.Heading
  pub led : r.lead ≡ lead
  pub ended : r.ending ≡ ending

-- And whatever heading there is, it is at the same place in the same nodes.
pub record HeadingStands (ts : List TableRound) (xs ys : List Row) (lead ending : List Item) : Type 0 where
  pub around : Around
  pub of_cells : AreCellHolders around.holders
  pub stands : (r : Row) → IsHeading lead ending r → blocks (in_cells ts (xs ++ r ∷ ys)) ≡ filled around (heading r.items)
