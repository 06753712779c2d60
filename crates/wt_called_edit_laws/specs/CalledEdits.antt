-- A paragraph or heading of the page with calls in it, for which one with other texts beside these calls is sent: what is written for it.
use Rattle.std.specs.Prelude.{◌≡◌, ℕ, false, None, List, []}
use Rattle.wt_tree.specs.declared.edit_shape.Place.TheVariants as place
use Rattle.wt_tree.specs.EditShapes.{edit_shape}
use Rattle.wt_tree.specs.Plain.{Plains, plain_before}
use Rattle.wt_tree.specs.Source.{flat}
use Rattle.wt_tree.specs.Tree.{Label, Tree, Trees, none, more, label}
use Rattle.wt_span.specs.Origins.{OuterCall}
use Rattle.wt_guards.specs.Content.{Thing}
use Rattle.wt_guards.specs.Guards.{Setting}
use Rattle.wt_original.specs.Kept.{kept_nodes}
use Rattle.wt_content.specs.Content.{bad_content}
use Rattle.wt_context.specs.Line.{line_parts}
use Rattle.wt_difference.specs.Insides.{is_block_part}
use Rattle.wt_annotated.specs.CutTexts.{cut_texts}
use Rattle.wt_link_spelling.specs.Spelling.{children_of}
use Rattle.wt_visible.specs.SameNodes.{same_node}
use Rattle.wt_expand.specs.PageCalls.{expanded_page}
use Rattle.wt_expand.specs.Work.{Pages}
use Rattle.wt_part_laws.specs.Expanded.{part_items}
use Rattle.wt_part_laws.specs.HeldCalls.{block_in}
use Rattle.wt_typed_blocks.specs.Edited.{Pieces, no_pieces, gone, written, kept, around, new_style, page_pieces, PiecesStay, page_node, sent_node, edited_before}
use Rattle.wt_typed_blocks.specs.EditedPage.{edited_source}
use Rattle.wt_typed_blocks.specs.EditedUnmarked.{AreInline}
use Rattle.wt_text_edit_laws.specs.ReadContents.{IsReadContent}
use Rattle.wt_text_edit_laws.specs.TextBlocks.{TextBlock, a_paragraph, a_heading, source_of}
use Rattle.wt_beside_laws.specs.Called.{AllSeenIn, HasUncalled}
use Rattle.wt_beside_laws.specs.ContentEdits.{content_edit, new_content}
use Rattle.wt_beside_laws.specs.FlatBlocks.{AreOneLine, sent_for}
use Rattle.wt_beside_laws.specs.FlatPages.{AreNodesAndTexts}
use Rattle.wt_beside_laws.specs.OwnSigns.{HaveOwn}
use Rattle.wt_beside_laws.specs.SentPieces.{IsNodeForm, HaveNoStyle}
use Rattle.wt_beside_laws.specs.Shown.{parts_shown_at}
use Rattle.wt_beside_laws.specs.Styled.{signs_in}
use Rattle.wt_beside_laws.specs.StyledBlocks.{all_numbers, things_with}
use Rattle.wt_called_edit_laws.specs.CalledContents.{tree_round}
use Rattle.wt_called_edit_laws.specs.CallingBlocks.{IsNewContentIn}
use Rattle.wt_called_edit_laws.specs.CallingEdits.{TakesLetters}
use Rattle.wt_called_edit_laws.specs.InPieces.{pieces_source, AreInPieces}
use Rattle.wt_called_edit_laws.specs.PageThings.{ArePageThings, thing_sources}
use Rattle.wt_called_edit_laws.specs.WholeContents.{IsWholeIn}
use Rattle.wt_called_edit_laws.specs.WrittenAnew.{StayButForOthers, HoldsAnywhere}

-- ---- the block

-- its nodes, groups among them: each with its source, its place, and what it is to its neighbours
abbrev pub page_things : Tree → List Thing
page_things block = things_with (kept_nodes block) (all_numbers (children_of block))

-- it shows what its source shows in this folder by itself, however many calls come before it
abbrev pub ShowsAsGiven : Pages → Tree → Type 0
ShowsAsGiven pages t = (i : ℕ) (rest : Plains) → parts_shown_at 0 [] (line_parts (part_items pages i (flat t))) rest ≡ plain_before t rest

-- an inline node of such a block: a text, a group, or another node, in which groups may be
pub record IsChildBeside (pages : Pages) (t : Tree) : Type 0 where
  pub inline : is_block_part (label t).kind ≡ false
  pub shows : IsNodeForm (edit_shape (label t).kind).inline → ShowsAsGiven pages t

abbrev pub AreChildrenBeside : Pages → Trees → Type 0
AreChildrenBeside pages none = Unit {0}
AreChildrenBeside pages (more t ts) = IsChildBeside pages t × AreChildrenBeside pages ts

-- A heading is read so between its `=`, and what each of its nodes gives ends with no blank and no `=`.
abbrev pub FitsRound : Pages → TextBlock → List ℕ → List Thing → Type 0
FitsRound pages a_paragraph q ts = Unit {0}
FitsRound pages (a_heading s) q ts = IsReadContent (a_heading s) q × AllSeenIn pages ts

-- A paragraph or heading of the page, whatever it is, in pieces: texts, calls that give what may be groups, and other nodes on one line. Its nodes are these calls
-- and nodes, beside which texts are typed; none of them is bold or italic.
pub record IsBesideCalls (pages : Pages) (k : TextBlock) (q : List ℕ) (block : Tree) : Type 0 where
  pub pieces : List (List ℕ)
  pub is : pieces_source pieces ≡ q
  pub parts : AreInPieces pages pieces
  pub own : HaveOwn (children_of block)
  pub children : AreChildrenBeside pages (children_of block)
  pub things : ArePageThings pages (page_things block)
  pub among : StayButForOthers pages pieces (thing_sources (page_things block))
  pub round : FitsRound pages k q (page_things block)

-- ---- what is sent for it

-- a node that is gone calls nothing
abbrev pub AreGoneCalm : Pages → Pieces → Type 0
AreGoneCalm pages no_pieces = Unit {0}
AreGoneCalm pages (gone t ps) =
    (IsNodeForm (edit_shape (label t).kind).inline → (expanded_page pages (flat t)).outer ≡ []) × AreGoneCalm pages ps
AreGoneCalm pages (written x text ps) = AreGoneCalm pages ps
AreGoneCalm pages (kept t u ps) = AreGoneCalm pages ps
AreGoneCalm pages (around l m is ps) = AreGoneCalm pages is × AreGoneCalm pages ps
AreGoneCalm pages (new_style m is ps) = AreGoneCalm pages is × AreGoneCalm pages ps

-- in the paragraph that is this node
abbrev pub written_in : Tree → Setting
written_in block = record { within = false; place = place.Paragraph; source = flat block }

-- Of what is sent for it something is no call, or `<nowiki/>` is put: of calls alone a paragraph is a part of their group.
abbrev pub SendsUncalled : Tree → Pieces → Type 0
SendsUncalled block ps = HasUncalled (written_in block) [] (signs_in (sent_for block ps))

-- In a heading no line break is typed.
abbrev pub TextsFitAt : TextBlock → Tree → Pieces → Type 0
TextsFitAt a_paragraph block ps = SendsUncalled block ps
TextsFitAt (a_heading s) block ps = AreOneLine ps

-- All its calls stay, in their order, and any other node stays or goes; each is sent as it is. Any texts are before, between and behind them.
pub record IsCalledEditOf (pages : Pages) (k : TextBlock) (block : Tree) (ps : Pieces) : Type 0 where
  pub old : page_pieces ps ≡ children_of block
  pub stay : PiecesStay ps
  pub are : AreNodesAndTexts ps
  pub plain : HaveNoStyle ps
  pub calm : AreGoneCalm pages ps
  pub fits : TextsFitAt k block ps

-- ---- what it makes

-- It is taken: nothing is wrong in it; what is written may stand in the place of the content q, holds its calls, of which none is text, takes texts
-- again and can be read by itself; the block is its delimiters and this between them, and shows what was sent, wherever it is in a page and whatever
-- calls come before it; what stays is inline.
pub record MakesContentIn (pages : Pages) (k : TextBlock) (q : List ℕ) (block : Tree) (m : Label) (ps : Pieces) : Type 0 where
  pub taken : bad_content same_node (page_node (content_edit k block m ps)) (sent_node (content_edit k block m ps)) ≡ None
  pub new : IsNewContentIn pages k q (new_content k block m ps)
  pub holds : HoldsAnywhere pages k (new_content k block m ps)
  pub texts : (expanded_page pages (source_of k (new_content k block m ps))).text_calls ≡ []
  pub letters : TakesLetters pages k (new_content k block m ps)
  pub whole : IsWholeIn pages k (new_content k block m ps)
  pub source : edited_source same_node (content_edit k block m ps) ≡ source_of k (new_content k block m ps)
  pub shows : (calls : List OuterCall) (i : ℕ) (rest : Plains) → edited_before (content_edit k block m ps) rest
      ≡ plain_before (cut_texts (block_in calls (tree_round k (part_items pages i (new_content k block m ps))))) rest
  pub inline : AreInline ps
