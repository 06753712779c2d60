-- A paragraph or a heading with a text: its source, what it is, and what may stand round it.
use Rattle.std.specs.Prelude.{◌≡◌, ◌⊎◌, ℕ, false, List, [], ◌∷◌, ◌++◌, None}
use Rattle.std.specs.Str.{IsUtf8}
use Rattle.wt_span.specs.Characters as byte
use Rattle.wt_span.specs.Items.{Item, char}
use Rattle.wt_blocks.specs.Paragraphs.{is_text}
use Rattle.wt_tree.specs.declared.edit_shape.Place.TheVariants as place
use Rattle.wt_guards.specs.Content.{letters}
use Rattle.wt_guards.specs.Guards.{Setting, spelled}
use Rattle.wt_content.specs.Content.{has_break}
use Rattle.wt_lines.specs.Lines.{lines}
use Rattle.wt_inline.specs.ItemTree.{ItemTree}
use Rattle.wt_page.specs.Rows.{Row}
use Rattle.wt_expand.specs.PageItems.{page_items}
use Rattle.wt_text_edit_laws.specs.TypedPages.{IsTypedPage}
use Rattle.wt_text_edit_laws.specs.ParagraphParts.{joined_parts, para_with}
use Rattle.wt_typed_blocks.specs.Sent.{Block, paragraph, heading}
use Rattle.wt_text_edit_laws.specs.TextBetween.{StandsBefore}
use Rattle.wt_text_edit_laws.specs.Paragraphs.{AreLetters, IsParagraph}
use Rattle.wt_text_edit_laws.specs.ParagraphBetween.{rows_of_lines, AreClosed, before_marks, EndsApart, EndsParagraph}
use Rattle.wt_text_edit_laws.specs.TypedHeadings.{Sides, AreSides, opening, closing, heading_line, heading_round, IsHeadingText, IsOfLevel, EndsLine}

-- ---- its source

-- a paragraph, or a heading with what its line has beside the text
pub data TextBlock : Type 0 where
  a_paragraph : TextBlock
  a_heading : Sides → TextBlock

abbrev pub block_of : TextBlock → Block
block_of a_paragraph = paragraph
block_of (a_heading s) = heading s.level

-- A paragraph is its text, and a heading has it between its `=` and blanks.
abbrev pub source_of : TextBlock → List ℕ → List ℕ
source_of a_paragraph q = q
source_of (a_heading s) q = opening s ++ (q ++ closing s)

-- ---- what it is

abbrev pub block_items : TextBlock → List ℕ → List Item
block_items a_paragraph q = page_items q
block_items (a_heading s) q = heading_line s (page_items q)

-- whatever is in it
abbrev pub block_tree : TextBlock → List ℕ → ItemTree
block_tree a_paragraph q = para_with (joined_parts (lines (page_items q)))
block_tree (a_heading s) q = heading_round s (page_items q)

-- ---- its text

-- What a heading's line has beside its text. What is behind the last `=` reads the same whether a line break is after it or the page ends
-- there: so a comment that begins there ends there.
pub record IsFrame (s : Sides) : Type 0 where
  pub sides : AreSides s
  pub utf8 : IsUtf8 s.rest
  pub stands : StandsBefore (s.rest ++ byte.line_break ∷ [])
  pub ended : page_items (s.rest ++ byte.line_break ∷ []) ≡ page_items s.rest ++ char None byte.line_break ∷ []

-- any text on one line, as a heading spells it
pub record IsTypedHeading (s : Sides) (q : List ℕ) : Type 0 where
  pub frame : IsFrame s
  pub setting : Setting
  pub text : List ℕ
  pub utf8 : IsUtf8 text
  pub one_line : has_break text ≡ false
  pub of_block : setting.within ≡ false
  pub of_heading : setting.place ≡ place.Heading
  pub is : q ≡ spelled setting (letters text)

-- A heading that somebody wrote by hand, read the same whether a line break is after it or the page ends there: its text is characters and
-- references, is read in its line as it is by itself, neither begins nor ends with a blank, and is not next to a `=` that is one more than
-- its level says.
pub record IsWrittenHeading (s : Sides) (q : List ℕ) : Type 0 where
  pub frame : IsFrame s
  pub utf8 : IsUtf8 q
  pub ended : page_items (source_of (a_heading s) q ++ byte.line_break ∷ []) ≡ heading_line s (page_items q) ++ char None byte.line_break ∷ []
  pub unended : page_items (source_of (a_heading s) q) ≡ heading_line s (page_items q)
  pub are_letters : AreLetters (page_items q)
  pub is_text : IsHeadingText (page_items q)
  pub of_level : IsOfLevel s (page_items q)

abbrev pub IsBlock : TextBlock → List ℕ → Type 0
IsBlock a_paragraph q = IsParagraph q
IsBlock (a_heading s) q = IsTypedHeading s q ⊎ IsWrittenHeading s q

-- one that was typed
abbrev pub IsTypedIn : TextBlock → List ℕ → Type 0
IsTypedIn a_paragraph q = IsTypedPage q
IsTypedIn (a_heading s) q = IsTypedHeading s q

-- ---- what stands before it

-- Lines that leave no table open, or nothing, and comments and include tags between these and the block, or none: in lines directly above it, or
-- on its own line. Before a paragraph and these the last line is no text.
abbrev pub LeadsTo : TextBlock → List Item → Type 0
LeadsTo a_paragraph xs = EndsApart xs
LeadsTo (a_heading s) xs = AreClosed (before_marks xs)

-- ---- what stands behind it

-- the page's end, or a line break; and behind a paragraph no text follows then
abbrev pub EndsBlock : TextBlock → List Item → Type 0
EndsBlock a_paragraph xs = EndsParagraph xs
EndsBlock (a_heading s) xs = EndsLine xs

-- the first of these rows isn't text, and where there is none, a heading follows
abbrev pub FirstApart : TextBlock → List Row → Type 0
FirstApart a_paragraph [] = ⊥
FirstApart (a_heading s) [] = Unit {0}
FirstApart a_paragraph (r ∷ rs) = is_text r.kind ≡ false
FirstApart (a_heading s) (r ∷ rs) = is_text r.kind ≡ false

-- between a paragraph and this block
abbrev pub BeginsApart : TextBlock → List Item → Type 0
BeginsApart next [] = ⊥
BeginsApart next (x ∷ xs) = (x ≡ char None byte.line_break) × AreClosed (before_marks xs) × FirstApart next (rows_of_lines (before_marks xs))

-- between a heading and a block
abbrev pub BeginsLine : List Item → Type 0
BeginsLine [] = ⊥
BeginsLine (x ∷ xs) = x ≡ char None byte.line_break

-- what stands between two blocks begins with the line break that ends the first
abbrev pub BeginsBetween : TextBlock → TextBlock → List Item → Type 0
BeginsBetween a_paragraph next xs = BeginsApart next xs
BeginsBetween (a_heading s) next xs = BeginsLine xs
