-- The paragraphs and headings of a page's tree by the page's rows: of which each is, and where it begins.
use Rattle.std.specs.Prelude.{◌≡◌, ◌⊎◌, ℕ, zero, suc, ◌+◌, true, false, None, List, [], ◌∷◌, ◌++◌, length, take, drop, map}
use Rattle.wt_span.specs.Items.{Item}
use Rattle.wt_span.specs.Origins.{OuterCall}
use Rattle.wt_tree.specs.declared.kind.Kind.{Kind}
use Rattle.wt_tree.specs.declared.kind.Kind.TheVariants as kind
use Rattle.wt_tree.specs.Tiling.{is_group}
use Rattle.wt_tree.specs.Tree.{Tree, tree, Trees, none, more}
use Rattle.wt_inline.specs.Inside.{opened_all}
use Rattle.wt_inline.specs.ItemTree.{ItemTree, tree_items}
use Rattle.wt_expand.specs.PageCalls.{expanded_page}
use Rattle.wt_expand.specs.Work.{Pages}
use Rattle.wt_annotated.specs.CutTexts.{cut_texts}
use Rattle.wt_annotated.specs.GroupData.{group_data}
use Rattle.wt_annotated.specs.Numbering.{with_numbers}
use Rattle.wt_annotated.specs.Seams.{last_of, first_of, text_from}
use Rattle.wt_annotated.specs.Walked.{clean_at, walked}
use Rattle.wt_lines.specs.declared.kind.LineKind.TheVariants as line
use Rattle.wt_lines.specs.Lines.{content, full_lines}
use Rattle.wt_tables.specs.Extents.{behind as tables_after}
use Rattle.wt_tables.specs.Parts.{joined}
use Rattle.wt_page.specs.Body.{meaning}
use Rattle.wt_page.specs.Headings.{heading}
use Rattle.wt_page.specs.Lines.{kind_at}
use Rattle.wt_page.specs.Rows.{Row, all_items, marks_len, idle_len, dashes, is_unseen, behind_sign, whole_row, rows_from}
use Rattle.wt_page.specs.Texts.{para}
use Rattle.wt_part_laws.specs.Blocks.{AllAre, BeginOtherwise}
use Rattle.wt_part_laws.specs.Rounds.{EndOtherwise}
use Rattle.wt_part_laws.specs.Slots.{open_behind, AllTrue}
use Rattle.wt_text_edit_laws.specs.ParagraphBetween.{written_rows, tables_behind, EndApart, BeginApart}
use Rattle.wt_called_edit_laws.specs.AnyBlocks.{open_after}

abbrev pub IsTextBlock : Kind → Type 0
IsTextBlock k = (k ≡ kind.Para) ⊎ ((n : ℕ) × (k ≡ kind.Heading n))

-- at this path is this node, and none on the way is a group
abbrev mutual
  pub IsReachedAt : List ℕ → Tree → Tree → Type 0
  IsReachedAt [] t u = t ≡ u
  IsReachedAt (i ∷ is) (tree l ts) u = (is_group l.kind ≡ false) × IsReachedIn i is ts u

  pub IsReachedIn : ℕ → List ℕ → Trees → Tree → Type 0
  IsReachedIn i is none u = ⊥
  IsReachedIn zero is (more t ts) u = IsReachedAt is t u
  IsReachedIn (suc i) is (more t ts) u = IsReachedIn i is ts u

-- ---- places among items

-- how many items a tree holds for these: for a nowiki those that are in it
abbrev pub opened_len : List Item → ℕ
opened_len xs = length (opened_all xs)

-- a node of a page with these calls, with this number, where it has one, between items that the tree holds
abbrev pub node_between : List OuterCall → ℕ → List Item → ItemTree → List Item → Tree
node_between calls n before u behind =
    cut_texts (with_numbers n (walked calls (group_data calls) (last_of None before) (length (text_from calls None before)) (first_of behind None) u))

-- A node of a page's tree is clean, and between these items.
pub record StandsIn (pages : Pages) (page : List ℕ) (t : Tree) : Type 0 where
  pub number : ℕ
  pub before : List Item
  pub block : ItemTree
  pub behind : List Item
  pub whole : tree_items (meaning (expanded_page pages page).items) ≡ before ++ (tree_items block ++ behind)
  pub is : t ≡ node_between (expanded_page pages page).outer number before block behind
  pub clean : clean_at (last_of None before) (first_of behind None) block ≡ true

-- ---- by the page's rows

-- where this row begins, behind its marks, if these are the rows before it: how many items are before it
abbrev pub begins_behind : List Row → Row → ℕ
begins_behind before r = opened_len (all_items before) + opened_len r.lead

-- A block is made of rows of text, with no other text beside them, or of a heading's row, and so many items are before it. They are in the body, or
-- in cells and captions.
pub data IsOfRows (all : List Row) (at : ℕ) (block : ItemTree) : Type 0 where
  of_text : (before : List Row) (first : Row) (others behind : List Row) → all ≡ before ++ ((first ∷ others) ++ behind) → AllTrue (open_after [] before)
      → EndOtherwise line.Text before → AllAre line.Text (first ∷ others) → BeginOtherwise line.Text behind → at ≡ begins_behind before first
      → block ≡ para (first ∷ others) → IsOfRows all at block
  of_heading : (before : List Row) (row : Row) (behind : List Row) → all ≡ before ++ row ∷ behind → AllTrue (open_after [] before) → row.kind ≡ line.Heading
      → at ≡ begins_behind before row → block ≡ heading row.items → IsOfRows all at block

-- a node of a page's tree is such a block of the expanded page's rows
pub record StandsOnRows (pages : Pages) (page : List ℕ) (t : Tree) : Type 0 where
  pub stands : StandsIn pages page t
  pub by_rows : IsOfRows (rows_from 0 (full_lines (expanded_page pages page).items)) (opened_len stands.before) stands.block

-- ---- by the page's lines

-- where so many tables are open, each of these lines is of text
abbrev pub AreOfText : ℕ → List (List Item) → Type 0
AreOfText n [] = Unit {0}
AreOfText n (l ∷ ls) = (kind_at n l ≡ line.Text) × AreOfText n ls

abbrev pub text_row : List Item → Row
text_row l = whole_row line.Text (marks_len l) l

-- where this line begins, behind its marks, if these are the lines before it
abbrev pub begins_at : List (List Item) → List Item → ℕ
begins_at before l = opened_len (joined before) + opened_len (take (marks_len l) l)

-- the `|}` of a table's end on its line, with the blanks and marks before it, and what is behind it
abbrev pub end_sign : List Item → List Item
end_sign l = take (idle_len l) l ++ take 2 (drop (idle_len l) l)

abbrev pub past_end : List Item → List Item
past_end l = behind_sign (idle_len l) 2 l

-- so the `-` of a rule, with the marks before them
abbrev pub rule_len : List Item → ℕ
rule_len l = dashes (drop (marks_len l) l)

abbrev pub rule_sign : List Item → List Item
rule_sign l = take (marks_len l) l ++ take (rule_len l) (drop (marks_len l) l)

abbrev pub past_rule : List Item → List Item
past_rule l = behind_sign (marks_len l) (rule_len l) l

-- where a text begins that these items are, with the marks that begin it, behind these lines and this sign
abbrev pub begins_past : List (List Item) → List Item → List Item → ℕ
begins_past before sign l = opened_len (joined before) + (opened_len sign + opened_len (take (marks_len l) l))

-- A block is made of lines of text, with no other text beside them, or of a heading's line, and so many items are before it, with the marks that begin
-- its first line; or it begins on a line behind the `|}` of a table's end or the `-` of a rule, where something is seen there.
pub data IsOfLines (ls : List (List Item)) (at : ℕ) (block : ItemTree) : Type 0 where
  of_lines : (before : List (List Item)) (first : List Item) (others behind : List (List Item)) → ls ≡ before ++ ((first ∷ others) ++ behind)
      → AllTrue (open_after [] (written_rows 0 before)) → EndApart (written_rows 0 before) → AreOfText (tables_behind 0 before) (first ∷ others)
      → BeginApart (rows_from (tables_behind 0 before) behind) → at ≡ begins_at before first → block ≡ para (map text_row (first ∷ others))
      → IsOfLines ls at block
  of_line : (before : List (List Item)) (own : List Item) (behind : List (List Item)) → ls ≡ before ++ own ∷ behind
      → AllTrue (open_after [] (written_rows 0 before)) → kind_at (tables_behind 0 before) own ≡ line.Heading → at ≡ begins_at before own
      → block ≡ heading (content (drop (marks_len own) own)) → IsOfLines ls at block
  behind_an_end : (before : List (List Item)) (own : List Item) (others behind : List (List Item)) → ls ≡ before ++ ((own ∷ others) ++ behind)
      → kind_at (tables_behind 0 before) own ≡ line.TableEnd → is_unseen (past_end own) ≡ false
      → AllTrue (open_behind (open_after [] (written_rows 0 before)) line.TableEnd) → AreOfText (tables_after (tables_behind 0 before) line.TableEnd) others
      → BeginApart (rows_from (tables_after (tables_behind 0 before) line.TableEnd) behind) → at ≡ begins_past before (end_sign own) (past_end own)
      → block ≡ para (map text_row (past_end own ∷ others)) → IsOfLines ls at block
  behind_a_rule : (before : List (List Item)) (own : List Item) (others behind : List (List Item)) → ls ≡ before ++ ((own ∷ others) ++ behind)
      → kind_at (tables_behind 0 before) own ≡ line.Rule → is_unseen (past_rule own) ≡ false
      → AllTrue (open_after [] (written_rows 0 before)) → AreOfText (tables_behind 0 before) others
      → BeginApart (rows_from (tables_behind 0 before) behind) → at ≡ begins_past before (rule_sign own) (past_rule own)
      → block ≡ para (map text_row (past_rule own ∷ others)) → IsOfLines ls at block

-- a node of a page's tree is such a block of the expanded page's lines
pub record StandsOnLines (pages : Pages) (page : List ℕ) (t : Tree) : Type 0 where
  pub stands : StandsIn pages page t
  pub by_lines : IsOfLines (full_lines (expanded_page pages page).items) (opened_len stands.before) stands.block
