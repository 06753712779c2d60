-- Blocks by cases of their rows, and the meaning of items by such blocks.
use Rattle.std.specs.Prelude.{◌≡◌, List, [], ◌∷◌, ◌++◌}
use Rattle.std.specs.List.{flat_map, AllByRecursion}
use Rattle.wt_tree.specs.declared.kind.Kind.TheVariants as kind
use Rattle.wt_span.specs.Items.{Item}
use Rattle.wt_span.specs.Runs.{AreRuns}
use Rattle.wt_lines.specs.declared.kind.LineKind.{LineKind}
use Rattle.wt_lines.specs.declared.kind.LineKind.TheVariants as line
use Rattle.wt_lines.specs.Lines.{goes_on}
use Rattle.wt_tables.specs.Parts.{table_of}
use Rattle.wt_inline.specs.ItemTree.{plain, ItemTree, inner, forest}
use Rattle.wt_inline.specs.Parts.{AreChildren}
use Rattle.wt_page.specs.Headings.{heading as heading_tree}
use Rattle.wt_page.specs.Rows.{Row, kind_of, row_items, rows_from}
use Rattle.wt_page.specs.Stretches.{Stretch, gap, stretches_parts}
use Rattle.wt_page.specs.Texts.{with_separators, para, pre, rule as rule_leaf}
use Rattle.wt_page.specs.Lists.{lists as list_stretches}
use Rattle.wt_page.specs.Tables.{Reading, table_by}
use Rattle.wt_page.specs.Body.{within}
use Rattle.wt_part_laws.specs.Units.{IsUnit}

-- A block by its rows: the first and those after it. Of a table: the row that opens it, those inside it, and the one that ends it.
pub data Block : Type 0 where
  blank : Row → Block
  table : Row → List Row → Row → Block
  heading : Row → Block
  rule : Row → Block
  lists : Row → List Row → Block
  preformatted : Row → List Row → Block
  paragraph : Row → List Row → Block

abbrev pub block_rows : Block → List Row
block_rows (blank r) = r ∷ []
block_rows (table r rs last) = r ∷ (rs ++ last ∷ [])
block_rows (heading r) = r ∷ []
block_rows (rule r) = r ∷ []
block_rows (lists r rs) = r ∷ rs
block_rows (preformatted r rs) = r ∷ rs
block_rows (paragraph r rs) = r ∷ rs

abbrev pub AllAre : LineKind → List Row → Type 0
AllAre k rs = AllByRecursion (λ r. r.kind ≡ k) rs

-- they begin with no row of this kind
abbrev pub BeginOtherwise : LineKind → List Row → Type 0
BeginOtherwise k [] = Unit {0}
BeginOtherwise k (r ∷ rs) = r.kind ≡ k → ⊥

-- A block is made of rows of its kind, with these others after it. Lists, preformatted text and paragraphs go as far as they can.
abbrev pub IsBlock : Block → List Row → Type 0
IsBlock (blank r) others = r.kind ≡ line.Blank
IsBlock (table r rs last) others = (r.kind ≡ line.TableOpen) × IsUnit (r ∷ (rs ++ last ∷ []))
IsBlock (heading r) others = r.kind ≡ line.Heading
IsBlock (rule r) others = r.kind ≡ line.Rule
IsBlock (lists r rs) others = AllAre line.List (r ∷ rs) × BeginOtherwise line.List others
IsBlock (preformatted r rs) others = AllAre line.Pre (r ∷ rs) × BeginOtherwise line.Pre others
IsBlock (paragraph r rs) others = AllAre line.Text (r ∷ rs) × BeginOtherwise line.Text others

-- these rows are these blocks, one after the other
abbrev pub AreBlocks : List Block → List Row → Type 0
AreBlocks [] rs = rs ≡ []
AreBlocks (b ∷ bs) rs = (others : List Row) × (rs ≡ block_rows b ++ others) × IsBlock b others × AreBlocks bs others

-- what a block makes, where blocks in cells are read so
abbrev pub block_parts : Reading → Block → List Stretch
block_parts read (blank r) = gap (row_items r) ∷ []
block_parts read (table r rs last) = table_by read (table_of kind_of r rs) last
block_parts read (heading r) = with_separators (heading_tree r.items) (r ∷ [])
block_parts read (rule r) = with_separators (rule_leaf r.items) (r ∷ [])
block_parts read (lists r rs) = list_stretches (r ∷ rs)
block_parts read (preformatted r rs) = with_separators (pre (r ∷ rs)) (r ∷ rs)
block_parts read (paragraph r rs) = with_separators (para (r ∷ rs)) (r ∷ rs)

-- This tree is the meaning where the items can be cut into lines, the rows of these into blocks, and what these make into leaves.
-- (Fifteen tables may be one inside the other in a cell.)
pub record IsMeaningByCases (t : ItemTree) (xs : List Item) : Type 0 where
  pub its_lines : List (List Item)
  pub its_blocks : List Block
  pub its_children : List ItemTree
  pub are_lines : AreRuns goes_on its_lines xs
  pub are_blocks : AreBlocks its_blocks (rows_from 0 its_lines)
  pub are_children : AreChildren its_children (stretches_parts (flat_map (block_parts (within 15)) its_blocks))
  pub is_body : t ≡ inner (plain kind.Body) [] (forest its_children) []
