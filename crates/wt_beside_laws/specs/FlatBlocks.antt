-- The lines of a paragraph or a heading of the page; and texts that are typed in it beside nodes that stay.
use Rattle.std.specs.Prelude.{◌≡◌, ℕ, false, None, List, [], ◌∷◌, ◌++◌, length}
use Rattle.wt_span.specs.Items.{Item}
use Rattle.wt_span.specs.Tags.{to_closing}
use Rattle.wt_tree.specs.Tree.{Tree}
use Rattle.wt_guards.specs.Content.{ContentSign, letter, thing}
use Rattle.wt_original.specs.Page.{page_of}
use Rattle.wt_link_spelling.specs.Spelling.{children_of}
use Rattle.wt_expand.specs.PageItems.{page_items}
use Rattle.wt_lines.specs.Lines.{lines}
use Rattle.wt_content.specs.Content.{has_break}
use Rattle.wt_typed_blocks.specs.Edited.{Pieces, no_pieces, gone, written, kept, around, new_style, page_pieces, sent_pieces, PiecesStay}
use Rattle.wt_typed_blocks.specs.Typed.{place_of}
use Rattle.wt_text_edit_laws.specs.TextBlocks.{TextBlock, a_paragraph, a_heading, block_of}
use Rattle.wt_text_edit_laws.specs.TypedHeadings.{opening}
use Rattle.wt_visible.specs.SameNodes.{same_node}
use Rattle.wt_beside_laws.specs.FlatPages.{AreNodesAndTexts}
use Rattle.wt_beside_laws.specs.Led.{AreMarksLed}
use Rattle.wt_beside_laws.specs.Nodes.{KeepsOpen}
use Rattle.wt_beside_laws.specs.PageSigns.{signs_of_lines}
use Rattle.wt_beside_laws.specs.SentPieces.{HaveNoStyle}
use Rattle.wt_beside_laws.specs.SentStyled.{sent_content}
use Rattle.wt_beside_laws.specs.Styled.{StyledContent, signs_in as signs_of}

-- ---- its lines

-- a heading has one
abbrev pub lines_in : TextBlock → List ℕ → List (List Item)
lines_in a_paragraph q = lines (page_items q)
lines_in (a_heading s) q = page_items q ∷ []

-- how many bytes of it come before its content
abbrev pub begins_at : TextBlock → ℕ
begins_at a_paragraph = 0
begins_at (a_heading s) = length (opening s)

-- its signs, by the tiles of its lines
abbrev pub signs_in : TextBlock → List ℕ → List ContentSign
signs_in k q = signs_of_lines (begins_at k) (lines_in k q)

-- ---- closing tags

-- Each closing tag that begins in this source ends in it, whatever follows: where none of this name is in the source before something, and none in
-- what is written behind it, none is in both.
pub record IsSealed (source : List ℕ) : Type 0 where
  pub closes : (name us vs : List ℕ) → to_closing name (source ++ us) ≡ None → to_closing name vs ≡ None → to_closing name (source ++ vs) ≡ None

-- so each node's source
abbrev pub AreSealed : List ContentSign → Type 0
AreSealed [] = Unit {0}
AreSealed (letter c ∷ after) = AreSealed after
AreSealed (thing t ∷ after) = IsSealed t.source × AreSealed after

-- ---- what is sent for it

-- no text has a line break; none in bold or italic has one anyway
abbrev pub AreOneLine : Pieces → Type 0
AreOneLine no_pieces = Unit {0}
AreOneLine (gone t ps) = AreOneLine ps
AreOneLine (written x text ps) = (has_break text ≡ false) × AreOneLine ps
AreOneLine (kept t u ps) = AreOneLine ps
AreOneLine (around l m is ps) = AreOneLine ps
AreOneLine (new_style m is ps) = AreOneLine ps

-- so it is in a heading
abbrev pub TextsFitIn : TextBlock → Pieces → Type 0
TextsFitIn a_paragraph ps = Unit {0}
TextsFitIn (a_heading s) ps = AreOneLine ps

-- its signs, and the styles round them
abbrev pub sent_for : Tree → Pieces → StyledContent
sent_for block ps = sent_content (page_of same_node block) (sent_pieces ps)

-- Nodes of this block stay, in their order, and each is sent as it is; any texts are between them, in a heading on one line. What else it held is gone.
-- Before each line of comments a line ends, and nothing on its line closes a tag that opens a pair.
pub record IsFlatEditOf (k : TextBlock) (block : Tree) (ps : Pieces) : Type 0 where
  pub old : page_pieces ps ≡ children_of block
  pub stay : PiecesStay ps
  pub are : AreNodesAndTexts ps
  pub fit : TextsFitIn k ps
  pub plain : HaveNoStyle ps
  pub led : AreMarksLed (place_of (block_of k)) (signs_of (sent_for block ps))
  pub unclosed : KeepsOpen (signs_of (sent_for block ps))
