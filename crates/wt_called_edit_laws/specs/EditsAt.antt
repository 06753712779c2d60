-- Contents of paragraphs and headings that are edited at paths of a page's tree, and the new page.
use Rattle.std.specs.Prelude.{◌≡◌, ◌⊎◌, ◌<◌, ℕ, zero, suc, false, Option, Some, None, List, [], ◌∷◌, map}
use Rattle.std.specs.Str.{IsUtf8}
use Rattle.wt_tree.specs.Tree.{Label, Tree, tree, Trees, none, more, label}
use Rattle.wt_span.specs.Items.{Item}
use Rattle.wt_inline.specs.ItemTree.{ItemTree}
use Rattle.wt_checks.specs.Kept.{children}
use Rattle.wt_difference.specs.Difference.{same_inside}
use Rattle.wt_difference.specs.Unedited.{SameLabel, IsUnedited}
use Rattle.wt_link_spelling.specs.Spelling.{inline_spelling}
use Rattle.wt_visible.specs.SameNodes.{same_node}
use Rattle.wt_part_laws.specs.Standing.{standing}
use Rattle.wt_typed_blocks.specs.Sent.{Block}
use Rattle.wt_typed_blocks.specs.Typed.{place_of, Takes}
use Rattle.wt_typed_blocks.specs.Edited.{Pieces, no_pieces, gone, written, kept, around, new_style, Edited, stays, edited, round, Edits, no_edits, more_edits, page_node, page_nodes, sent_node, AreEdited, sent_body}
use Rattle.wt_typed_blocks.specs.EditedUnmarked.{bare_node, bare_body}
use Rattle.wt_text_edit_laws.specs.BlockSpots.{BlockSpot, spots_source}
use Rattle.wt_text_edit_laws.specs.TextBlocks.{TextBlock, block_tree}
use Rattle.wt_beside_laws.specs.StyledIn.{IsStyledIn, IsStyledEditOf}
use Rattle.wt_called_edit_laws.specs.AnyBlocks.{first_paths, other_paths, EndHere, GoOn}

-- ---- where the blocks are

-- this block is a node of the page: with a number, and at some place
pub record IsStanding (u : ItemTree) (t : Tree) : Type 0 where
  pub number : ℕ
  pub before : List Item
  pub some : 0 < number
  pub is : t ≡ standing number before u

-- so it is at this path
abbrev mutual
  pub StandsTo : ItemTree → List ℕ → Tree → Type 0
  StandsTo u [] t = IsStanding u t
  StandsTo u (i ∷ is) (tree l ts) = StandsAmong u i is ts

  pub StandsAmong : ItemTree → ℕ → List ℕ → Trees → Type 0
  StandsAmong u i is none = ⊥
  StandsAmong u zero is (more t ts) = StandsTo u is t
  StandsAmong u (suc i) is (more t ts) = StandsAmong u i is ts

-- at each of these paths is one of these blocks, in their order
abbrev pub AllStand : List BlockSpot → List (List ℕ) → Tree → Type 0
AllStand [] [] t = Unit {0}
AllStand [] (p ∷ ps) t = ⊥
AllStand (s ∷ ss) [] t = ⊥
AllStand (s ∷ ss) (p ∷ ps) t = StandsTo (block_tree s.block s.text) p t × AllStand ss ps t

-- ---- what is sent

-- at this path, where a content is edited there
abbrev mutual
  pub edited_at : List ℕ → Edited → Option Edited
  edited_at path (stays t u) = None
  edited_at [] (edited k l m ps) = Some (edited k l m ps)
  edited_at (i ∷ is) (edited k l m ps) = None
  edited_at [] (round l m es) = None
  edited_at (i ∷ is) (round l m es) = edited_among i is es

  pub edited_among : ℕ → List ℕ → Edits → Option Edited
  edited_among i is no_edits = None
  edited_among zero is (more_edits e es) = edited_at is e
  edited_among (suc i) is (more_edits e es) = edited_among i is es

abbrev pub edited_by : Edits → List ℕ → Option Edited
edited_by es [] = None
edited_by es (i ∷ is) = edited_among i is es

-- Each content is edited at one of these paths. A node is sent with what it holds where one of them goes on in it; every other one stays.
abbrev mutual
  pub EditsOnly : List (List ℕ) → Edited → Type 0
  EditsOnly ps (stays t u) = Unit {0}
  EditsOnly ps (edited k l m qs) = EndHere ps
  EditsOnly ps (round l m es) = GoOn ps × AllEditOnly ps es

  pub AllEditOnly : List (List ℕ) → Edits → Type 0
  AllEditOnly ps no_edits = Unit {0}
  AllEditOnly ps (more_edits e es) = EditsOnly (first_paths ps) e × AllEditOnly (other_paths ps) es

-- ---- the new page

-- the content that is sent for a block, as it is spelled
abbrev pub content_of : Edited → List ℕ
content_of (stays t u) = []
content_of (edited k l m ps) = inline_spelling same_node (page_node (edited k l m ps)) (sent_node (edited k l m ps)) (place_of k)
content_of (round l m es) = []

abbrev pub with_content : BlockSpot → Option Edited → BlockSpot
with_content s None = s
with_content s (Some e) = record s { text = content_of e }

abbrev pub with_contents : List BlockSpot → List (Option Edited) → List BlockSpot
with_contents [] os = []
with_contents (s ∷ ss) [] = s ∷ ss
with_contents (s ∷ ss) (o ∷ os) = with_content s o ∷ with_contents ss os

abbrev pub edited_page : List BlockSpot → List ℕ → List (List ℕ) → Edits → List ℕ
edited_page ss behind paths es = spots_source (with_contents ss (map (edited_by es) paths)) behind

-- ---- which contents may be sent

abbrev pub AreGone : Pieces → Type 0
AreGone no_pieces = Unit {0}
AreGone (gone t ps) = AreGone ps
AreGone (written x text ps) = ⊥
AreGone (kept t u ps) = ⊥
AreGone (around l m is ps) = ⊥
AreGone (new_style m is ps) = ⊥

-- one text in the place of all that the block held
abbrev pub IsOneText : Block → Pieces → Type 0
IsOneText k no_pieces = ⊥
IsOneText k (gone t ps) = IsOneText k ps
IsOneText k (written x text ps) = IsUtf8 text × Takes k text × AreGone ps
IsOneText k (kept t u ps) = ⊥
IsOneText k (around l m is ps) = ⊥
IsOneText k (new_style m is ps) = ⊥

-- One text in the place of all that the block held; or, where its content is so read, nodes of it as they are, and any texts between them; bold and
-- italic stay, with any texts in them, or are new.
abbrev pub Fits : TextBlock → List ℕ → Edited → Type 0
Fits k q (stays t u) = ⊥
Fits k q (edited j l m ps) = IsOneText j ps ⊎ (IsStyledIn k q × IsStyledEditOf k (page_node (edited j l m ps)) ps)
Fits k q (round l m es) = ⊥

abbrev pub FitsSpot : BlockSpot → Option Edited → Type 0
FitsSpot s None = Unit {0}
FitsSpot s (Some e) = Fits s.block s.text e

abbrev pub AreFitting : List BlockSpot → List (Option Edited) → Type 0
AreFitting [] [] = Unit {0}
AreFitting [] (o ∷ os) = ⊥
AreFitting (s ∷ ss) [] = ⊥
AreFitting (s ∷ ss) (o ∷ os) = FitsSpot s o × AreFitting ss os

-- ---- the edit

-- Of the blocks at these paths of the page's tree some contents are edited, and all else is sent as it is.
pub record IsContentEdit (t : Tree) (ss : List BlockSpot) (paths : List (List ℕ)) (es : Edits) : Type 0 where
  pub old : page_nodes es ≡ children t
  pub sent : AreEdited es
  pub edits : AllEditOnly paths es
  pub fit : AreFitting ss (map (edited_by es) paths)

-- the edited tree, with this label of its body
abbrev pub sent_contents : Tree → Edits → Label → Tree
sent_contents t es b = sent_body (label t) b es

-- whatever marks are on the blocks whose contents were edited, and on the body
abbrev pub bare_contents : Tree → Edits → Label → Tree
bare_contents t es b = bare_body (label t) b es

-- What stays is the page's own in all that the difference looks at, and so is the label of what holds blocks whose contents were edited; and each
-- of these contents is another one than the block held.
abbrev mutual
  pub IsOwnEdit : Edited → Type 0
  IsOwnEdit (stays t u) = IsUnedited t u
  IsOwnEdit (edited k l m ps) = same_inside (page_node (edited k l m ps)) (bare_node (edited k l m ps)) ≡ false
  IsOwnEdit (round l m es) = SameLabel l m × AreOwnEdits es

  pub AreOwnEdits : Edits → Type 0
  AreOwnEdits no_edits = Unit {0}
  AreOwnEdits (more_edits e es) = IsOwnEdit e × AreOwnEdits es

pub record IsUnmarkedContentEdit (t : Tree) (ss : List BlockSpot) (paths : List (List ℕ)) (es : Edits) : Type 0 where
  pub edit : IsContentEdit t ss paths es
  pub own : AreOwnEdits es
