-- A page that is one paragraph of text and of nodes, and texts that are typed in it beside the nodes.
use Rattle.std.specs.Prelude.{◌≡◌, ℕ, false, List, []}
use Rattle.std.specs.Str.{IsUtf8}
use Rattle.wt_span.specs.Items.{Item}
use Rattle.wt_tree.specs.declared.edit_shape.Place.TheVariants as place
use Rattle.wt_tree.specs.EditShapes.{edit_shape}
use Rattle.wt_tree.specs.Source.{flat}
use Rattle.wt_tree.specs.Tree.{Label, Tree, label}
use Rattle.wt_guards.specs.Content.{ContentSign}
use Rattle.wt_guards.specs.Guards.{spelled}
use Rattle.wt_original.specs.Page.{page_of}
use Rattle.wt_link_spelling.specs.Spelling.{signs_of_all, children_of}
use Rattle.wt_expand.specs.PageItems.{page_items}
use Rattle.wt_lines.specs.Lines.{lines}
use Rattle.wt_inline.specs.ItemTree.{ItemTree}
use Rattle.wt_difference.specs.Difference.{same_inside}
use Rattle.wt_visible.specs.SameNodes.{same_node}
use Rattle.wt_part_laws.specs.Standing.{standing}
use Rattle.wt_typed_blocks.specs.Sent.{paragraph}
use Rattle.wt_typed_blocks.specs.Edited.{Pieces, no_pieces, gone, written, kept, around, new_style, page_pieces, sent_pieces, PiecesStay, edited, Edits, no_edits, more_edits, sent_body}
use Rattle.wt_typed_blocks.specs.EditedUnmarked.{bare_node, bare_body, AreInline}
use Rattle.wt_text_edit_laws.specs.NoCalls.{CallsNothing}
use Rattle.wt_text_edit_laws.specs.Parts.{part_tree, HasNoGroups}
use Rattle.wt_beside_laws.specs.Calm.{AreCalm}
use Rattle.wt_beside_laws.specs.Content.{AreKept}
use Rattle.wt_text_edit_laws.specs.ParagraphParts.{para_with, joined_parts}
use Rattle.wt_beside_laws.specs.Led.{AreMarksLed}
use Rattle.wt_beside_laws.specs.Lines.{AreLinesOfText}
use Rattle.wt_beside_laws.specs.Nodes.{KeepsOpen}
use Rattle.wt_beside_laws.specs.PageBlocks.{AreUnstyled, AreShut}
use Rattle.wt_beside_laws.specs.PageSigns.{signs_of_lines, AreFlatLines}
use Rattle.wt_beside_laws.specs.SentPieces.{IsNodeForm, OnlyTextsGo}

-- ---- the page

abbrev pub lines_of : List ℕ → List (List Item)
lines_of q = lines (page_items q)

-- its paragraph, and this in the page's tree
abbrev pub paragraph_of : List ℕ → ItemTree
paragraph_of q = para_with (joined_parts (lines_of q))

abbrev pub block_of : List ℕ → Tree
block_of q = standing 1 [] (paragraph_of q)

-- Its lines are text, in which no style begins and each form is a node that stays, whose source doesn't end in an open tag. The page calls
-- nothing, and no node of it can only be kept as a whole.
pub record IsFlatPage (q : List ℕ) : Type 0 where
  pub utf8 : IsUtf8 q
  pub calls_nothing : CallsNothing (page_items q)
  pub text : AreLinesOfText 0 (lines_of q)
  pub flat : AreFlatLines (lines_of q)
  pub unstyled : AreUnstyled (lines_of q)
  pub kept : AreKept (signs_of_lines 0 (lines_of q))
  pub calm : AreCalm (signs_of_lines 0 (lines_of q))
  pub shut : AreShut (signs_of_lines 0 (lines_of q))
  pub ungrouped : HasNoGroups q

-- ---- the edit

-- what stays are nodes, and the texts are texts
abbrev pub AreNodesAndTexts : Pieces → Type 0
AreNodesAndTexts no_pieces = Unit {0}
AreNodesAndTexts (gone t ps) = AreNodesAndTexts ps
AreNodesAndTexts (written x text ps) = IsUtf8 text × AreNodesAndTexts ps
AreNodesAndTexts (kept t u ps) = IsNodeForm (edit_shape (label t).kind).inline × AreNodesAndTexts ps
AreNodesAndTexts (around l m is ps) = AreNodesAndTexts is × AreNodesAndTexts ps
AreNodesAndTexts (new_style m is ps) = AreNodesAndTexts is × AreNodesAndTexts ps

-- the paragraph, sent with this label
abbrev pub flat_edits : Label → List ℕ → Pieces → Edits
flat_edits m q ps = more_edits (edited paragraph (label (block_of q)) m ps) no_edits

-- the edited tree, with this label of its body
abbrev pub sent_flat : Label → Label → List ℕ → Pieces → Tree
sent_flat b m q ps = sent_body (label (part_tree q)) b (flat_edits m q ps)

-- the new page: the signs of what was sent, as they are spelled
abbrev pub new_signs : List ℕ → Pieces → List ContentSign
new_signs q ps = signs_of_all (page_of same_node (block_of q)) place.Paragraph (sent_pieces ps)

abbrev pub new_flat : List ℕ → Pieces → List ℕ
new_flat q ps = spelled (record { within = false; place = place.Paragraph; source = flat (block_of q) }) (new_signs q ps)

-- All nodes of the paragraph stay, each is sent as it is, and any texts are between them. Before each line of comments a line ends, and nothing on its
-- line closes a tag that opens a pair.
pub record IsFlatEdit (q : List ℕ) (ps : Pieces) : Type 0 where
  pub old : page_pieces ps ≡ children_of (block_of q)
  pub stay : PiecesStay ps
  pub go : OnlyTextsGo ps
  pub are : AreNodesAndTexts ps
  pub led : AreMarksLed place.Paragraph (new_signs q ps)
  pub unclosed : KeepsOpen (new_signs q ps)

-- ---- without marks

-- the edited tree, whatever marks are on the paragraph and the body
abbrev pub bare_flat : Label → Label → List ℕ → Pieces → Tree
bare_flat b m q ps = bare_body (label (part_tree q)) b (flat_edits m q ps)

-- Its content is another one than that of the page's paragraph, and what stays in it is inline.
pub record IsUnmarkedFlatEdit (m : Label) (q : List ℕ) (ps : Pieces) : Type 0 where
  pub edit : IsFlatEdit q ps
  pub inline : AreInline ps
  pub other : same_inside (block_of q) (bare_node (edited paragraph (label (block_of q)) m ps)) ≡ false
