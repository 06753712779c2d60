-- A paragraph or a heading of the page that holds texts, nodes that stay, and bold and italic, by its lines; and what is sent for it.
use Rattle.std.specs.Prelude.{◌≡◌, ℕ, false, None, List, [], ◌∷◌, ◌++◌}
use Rattle.std.specs.Str.{IsUtf8}
use Rattle.wt_span.specs.Characters as byte
use Rattle.wt_span.specs.Items.{char}
use Rattle.wt_tree.specs.declared.edit_shape.Place.TheVariants as place
use Rattle.wt_tree.specs.Tree.{Tree}
use Rattle.wt_guards.specs.Guards.{Setting}
use Rattle.wt_link_spelling.specs.Spelling.{children_of}
use Rattle.wt_expand.specs.PageItems.{page_items}
use Rattle.wt_inline.specs.ItemTree.{forest}
use Rattle.wt_inline.specs.Parts.{children}
use Rattle.wt_part_laws.specs.Rounded.{AllHaveItems}
use Rattle.wt_typed_blocks.specs.Edited.{Pieces, page_pieces, PiecesStay}
use Rattle.wt_text_edit_laws.specs.Contents.{IsContentOf, content_parts_of}
use Rattle.wt_text_edit_laws.specs.NoCalls.{CallsNothing}
use Rattle.wt_typed_blocks.specs.Typed.{place_of}
use Rattle.wt_text_edit_laws.specs.TextBlocks.{TextBlock, a_paragraph, a_heading, block_of, source_of, block_items}
use Rattle.wt_beside_laws.specs.Calm.{AreUtf8Nodes}
use Rattle.wt_beside_laws.specs.Content.{AreKept}
use Rattle.wt_beside_laws.specs.FlatBlocks.{lines_in, signs_in as signs_of, TextsFitIn, sent_for}
use Rattle.wt_beside_laws.specs.FlatPages.{AreNodesAndTexts}
use Rattle.wt_beside_laws.specs.InHeadings.{AreOnOneLine}
use Rattle.wt_beside_laws.specs.Led.{AreMarksLed}
use Rattle.wt_beside_laws.specs.PageBlocks.{AreUnstyled, AreShut}
use Rattle.wt_beside_laws.specs.PageSigns.{AreFlatLines}
use Rattle.wt_beside_laws.specs.NewStyles.{NewStylesNest}
use Rattle.wt_beside_laws.specs.Nodes.{KeepsOpen}
use Rattle.wt_beside_laws.specs.Stood.{things}
use Rattle.wt_beside_laws.specs.Styled.{StyledContent, signs_in, IsStyledContent}
use Rattle.wt_beside_laws.specs.StyledNodes.{AreSomeAndPut}

-- A content that is read by itself and calls nothing: text, with bold and italic or without, and forms that are nodes, which stay whatever is
-- written beside them. The source of each is read so whatever follows it, and doesn't end in an open tag.
pub record IsStyledIn (k : TextBlock) (q : List ℕ) : Type 0 where
  pub utf8 : IsUtf8 q
  pub ended : page_items (source_of k q ++ byte.line_break ∷ []) ≡ block_items k q ++ char None byte.line_break ∷ []
  pub unended : page_items (source_of k q) ≡ block_items k q
  pub is : IsContentOf k q
  pub calls_nothing : CallsNothing (block_items k q)
  pub has_items : AllHaveItems (forest (children (content_parts_of k (page_items q))))
  pub flat : AreFlatLines (lines_in k q)
  pub kept : AreKept (signs_of k q)
  pub nodes_utf8 : AreUtf8Nodes (signs_of k q)
  pub shut : AreShut (signs_of k q)

-- no bold and no italic is in it
pub record IsFlatIn (k : TextBlock) (q : List ℕ) : Type 0 where
  pub styled : IsStyledIn k q
  pub unstyled : AreUnstyled (lines_in k q)

-- ---- what is written for it

-- it is spelled for such a block, and in a heading it is on one line
abbrev pub StaysIn : TextBlock → Setting → StyledContent → Type 0
StaysIn a_paragraph s t = s.place ≡ place.Paragraph
StaysIn (a_heading h) s t = (s.place ≡ place.Heading) × AreOnOneLine (signs_in t)

-- nodes that it had, in their order, with any texts and styles
pub record IsStyledFor (k : TextBlock) (q : List ℕ) (s : Setting) (t : StyledContent) : Type 0 where
  pub content : IsStyledContent s t
  pub nodes : AreSomeAndPut (things (signs_in t)) (things (signs_of k q))
  pub stays : StaysIn k s t

-- ---- what is sent for it

-- As for a flat block, where bold and italic nodes of the page may stay, too, and new ones may come, with any such pieces in them: a new one in none
-- of its kind, and round none. In bold and italic no text has a line break. Before each line of comments a line ends, and where a tag that opens a
-- pair stays nothing on its line closes it.
pub record IsStyledEditOf (k : TextBlock) (block : Tree) (ps : Pieces) : Type 0 where
  pub old : page_pieces ps ≡ children_of block
  pub stay : PiecesStay ps
  pub are : AreNodesAndTexts ps
  pub fit : TextsFitIn k ps
  pub new : NewStylesNest false false ps
  pub led : AreMarksLed (place_of (block_of k)) (signs_in (sent_for block ps))
  pub unclosed : KeepsOpen (signs_in (sent_for block ps))
