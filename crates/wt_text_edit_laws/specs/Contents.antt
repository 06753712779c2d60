-- The content of a paragraph or a heading, whatever is in it: what makes it one that is read by itself, and one that may be written in its place.
use Rattle.std.specs.Prelude.{◌≡◌, ◌⊎◌, ℕ, true, false, None, List, [], ◌∷◌, ◌++◌, All}
use Rattle.std.specs.List.{list_all}
use Rattle.std.specs.Str.{IsUtf8}
use Rattle.wt_span.specs.Characters as byte
use Rattle.wt_span.specs.Items.{Item, char}
use Rattle.wt_span.specs.Origins.{Expanded}
use Rattle.wt_span.specs.Tags.{to_closing}
use Rattle.wt_tree.specs.Tree.{Tree}
use Rattle.wt_lines.specs.declared.kind.LineKind.TheVariants as line
use Rattle.wt_lines.specs.Kinds.{line_kind}
use Rattle.wt_lines.specs.Lines.{lines}
use Rattle.wt_inline.specs.ItemTree.{forest, held_by_all}
use Rattle.wt_inline.specs.Parts.{Part, children}
use Rattle.wt_context.specs.Line.{line_parts}
use Rattle.wt_page.specs.Rows.{marks_len}
use Rattle.wt_expand.specs.PageItems.{page_items}
use Rattle.wt_annotated.specs.Clean.{is_page}
use Rattle.wt_checks.specs.Kept.{children as nodes_in}
use Rattle.wt_isolation.specs.OpenTags.{any_ends_open}
use Rattle.wt_selser.specs.GroupFaults.{has_faulty_group}
use Rattle.wt_part_laws.specs.Placeless.{placeless}
use Rattle.wt_part_laws.specs.Standing.{standing}
use Rattle.wt_part_laws.specs.Rounded.{AllHaveItems}
use Rattle.wt_text_edit_laws.specs.NoCalls.{AreFewer}
use Rattle.wt_text_edit_laws.specs.ParagraphParts.{joined_parts}
use Rattle.wt_text_edit_laws.specs.Paragraphs.{IsSeenLine}
use Rattle.wt_text_edit_laws.specs.ReadContents.{BeginsUnclosed, BeginsUnjoined, StaysUncommented, IsFirmlyRead}
use Rattle.wt_text_edit_laws.specs.TextBetween.{StandsBehind, LineEnds}
use Rattle.wt_text_edit_laws.specs.TextBlocks.{TextBlock, a_paragraph, a_heading, source_of, block_items, block_tree, IsFrame}
use Rattle.wt_text_edit_laws.specs.TypedHeadings.{Sides, IsInside, IsOfLevel}

-- ---- its lines

-- Lines, in each of which something is neither a blank nor a mark, and no mark is before the first: it would stand before the paragraph. Before another
-- line one may be, such as a line of comments. Whether they are text hangs on where they stand.
pub record AreParagraphLines (q : List ℕ) : Type 0 where
  pub seen : All IsSeenLine (lines (page_items q))
  pub unled : marks_len (page_items q) ≡ 0

-- What is between a heading's delimiters: it is on one line, begins and ends with no blank, or is nothing; and the line's level is that of the
-- delimiters.
pub record IsHeadingLine (s : Sides) (q : List ℕ) : Type 0 where
  pub frame : IsFrame s
  pub inside : IsInside s (page_items q)
  pub of_level : IsOfLevel s (page_items q)

abbrev pub IsContentOf : TextBlock → List ℕ → Type 0
IsContentOf a_paragraph q = AreParagraphLines q
IsContentOf (a_heading s) q = IsHeadingLine s q

-- what these items are as the parts of such a block
abbrev pub content_parts_of : TextBlock → List Item → List Part
content_parts_of a_paragraph xs = joined_parts (lines xs)
content_parts_of (a_heading s) xs = line_parts xs

-- ---- a content of the page

-- A content that is read by itself, and the same whether a line break is behind its block or the page ends there. All in it is the page's own, and
-- no node in it is empty; and where such a block is in a page, no tag is open in it, and no node of it is one that `edit` can't read by itself.
pub record IsContent (k : TextBlock) (q : List ℕ) : Type 0 where
  pub utf8 : IsUtf8 q
  pub ended : page_items (source_of k q ++ byte.line_break ∷ []) ≡ block_items k q ++ char None byte.line_break ∷ []
  pub unended : page_items (source_of k q) ≡ block_items k q
  pub is : IsContentOf k q
  pub of_page : list_all is_page (held_by_all (forest (children (content_parts_of k (page_items q))))) ≡ true
  pub has_items : AllHaveItems (forest (children (content_parts_of k (page_items q))))
  pub untangled : (items : Expanded) (t : Tree) → placeless t ≡ placeless (standing 0 [] (block_tree k q))
      → (any_ends_open (nodes_in t) ≡ false) × (has_faulty_group items (nodes_in t) ≡ false)

-- ---- one that is written

-- its lines are text wherever they are in tables
abbrev pub StaysAnywhere : TextBlock → List ℕ → Type 0
StaysAnywhere a_paragraph q = (n : ℕ) → All (λ l. line_kind n l ≡ line.Text) (lines (page_items q))
StaysAnywhere (a_heading s) q = Unit {0}

-- It is read the same whatever stands behind it but what a reference goes on with, and nothing begins in it that goes on there; nor does it begin with a
-- `}`. So is a text that was typed and spelled.
pub record IsFirmContent (k : TextBlock) (q : List ℕ) : Type 0 where
  pub content : IsContent k q
  pub firm : (rest : List ℕ) → StandsBehind rest → BeginsUnjoined rest → page_items (q ++ rest) ≡ page_items q ++ page_items rest
  pub uncommented : (rest : List ℕ) → StandsBehind rest → BeginsUnjoined rest → StaysUncommented k q rest
  pub stays : StaysAnywhere k q
  pub unclosed : BeginsUnclosed q

-- In the place of an old content: it closes no tag that this didn't close, and of two braces that are side by side outside of its lexemes it has none, or
-- some of those of the old one, which calls nothing.
pub record IsNewContent (k : TextBlock) (was now : List ℕ) : Type 0 where
  pub firm : IsFirmContent k now
  pub fewer : AreFewer (page_items (source_of k now)) (page_items (source_of k was))
  pub closes : (name us vs : List ℕ) → to_closing name (was ++ us) ≡ None → to_closing name vs ≡ None → to_closing name (now ++ vs) ≡ None

-- Nothing begins in what is firm. What begins in another content ends in it, or is a tag that nothing in the rest of the page closes.
abbrev pub TextEnds : TextBlock → List ℕ → List ℕ → Type 0
TextEnds k q rest = IsFirmlyRead k q ⊎ LineEnds (source_of k q) rest
