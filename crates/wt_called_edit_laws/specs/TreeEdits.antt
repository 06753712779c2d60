-- An edit of any page that types texts at paths of its tree, and sends all else as it is: with marks and without them.
use Rattle.std.specs.Prelude.{◌≡◌, ℕ, false, Option, Some, List, map}
use Rattle.wt_tree.specs.declared.kind.Kind.TheVariants as kind
use Rattle.wt_tree.specs.Tiling.{InPreorder}
use Rattle.wt_tree.specs.Tree.{Label, Tree, label}
use Rattle.wt_checks.specs.Kept.{children}
use Rattle.wt_checks.specs.PutBack.{have_frame}
use Rattle.wt_typed_blocks.specs.Sent.{Sents, old_children, AreSent, new_body}
use Rattle.wt_typed_blocks.specs.Typed.{TakeTexts}
use Rattle.wt_part_laws.specs.Frames.{content}
use Rattle.wt_part_laws.specs.Placeless.{all_placeless}
use Rattle.wt_typed_blocks.specs.Unmarked.{free_body}
use Rattle.wt_typed_blocks.specs.Edited.{Edited, stays, edited, round, Edits, page_nodes}
use Rattle.wt_typed_blocks.specs.EditedUnmarked.{AreInline, AreTold}
use Rattle.wt_text_edit_laws.specs.BlockSpots.{BlockSpot}
use Rattle.wt_called_edit_laws.specs.AnyBlocks.{typed_by, AllTypeOnly}
use Rattle.wt_called_edit_laws.specs.AnyTexts.{AreOwn}
use Rattle.wt_called_edit_laws.specs.EditsAt.{AreOwnEdits}
use Rattle.wt_called_edit_laws.specs.OwnTexts.{AreTypings, path_texts, own_texts}
use Rattle.wt_part_laws.specs.TreeFrames.{TreeFrames, all_filled}
use Rattle.wt_called_edit_laws.specs.Nodes.{AreHolders}
use Rattle.wt_called_edit_laws.specs.Sends.{AllSend}

-- ---- the page's tree, without its sections

-- a body whose nodes have their numbers, with no other body in it, and no section
pub record IsNumberedBody (t : Tree) : Type 0 where
  pub body : (label t).kind ≡ kind.Body
  pub numbered : InPreorder t
  pub alone : have_frame (children t) ≡ false

-- ---- the edit

-- Texts are typed at these paths and nowhere else, and all else is sent as it is.
pub record IsEditOf (t : Tree) (paths : List (List ℕ)) (es : Sents) : Type 0 where
  pub old : old_children es ≡ children t
  pub sent : AreSent es
  pub types : AllTypeOnly paths es
  pub take : TakeTexts es

-- the body as it is sent, with this label
abbrev pub sent_body : Tree → Sents → Label → Tree
sent_body t es b = new_body (label t) b es

-- whatever marks are on the blocks in which the texts were typed, and on the body
abbrev pub free_sent_body : Tree → Sents → Label → Tree
free_sent_body t es b = free_body (label t) b es

-- What stays is the page's own in all that the difference looks at, and each text is another one than what the block held.
pub record IsUnmarkedEditOf (t : Tree) (paths : List (List ℕ)) (es : Sents) : Type 0 where
  pub edit : IsEditOf t paths es
  pub own : AreOwn es

-- ---- there is one for any texts

-- the one that sends every other node as it is, without marks; the blocks in which texts are typed have this label
abbrev pub own_edit : Tree → List BlockSpot → List (List ℕ) → Label → List (Option (List ℕ)) → Sents
own_edit t ss paths m os = own_texts m (path_texts ss paths os) (children t)

-- whatever texts are chosen for these blocks
abbrev pub HasOwnEdits : Tree → List BlockSpot → List (List ℕ) → Type 0
HasOwnEdits t ss paths =
    (m : Label) (os : List (Option (List ℕ))) → AreTypings ss os
    → IsEditOf t paths (own_edit t ss paths m os) × (map (typed_by (own_edit t ss paths m os)) paths ≡ os)

-- ---- without marks

-- what stays in an edited content is inline
abbrev pub IsInline : Edited → Type 0
IsInline (stays t u) = Unit {0}
IsInline (edited k l m ps) = AreInline ps
IsInline (round l m es) = Unit {0}

-- Where the contents of the blocks at some places of such a page's nodes are edited, and all else stays, the difference finds what was edited.
abbrev pub AreFoundApart : Tree → TreeFrames → (ℕ → Option Edited) → (ℕ → Tree) → Edits → Type 0
AreFoundApart t fs o b es =
    IsNumberedBody t → AreHolders fs content → AllSend o fs es → page_nodes es ≡ children t → all_placeless (page_nodes es) ≡ all_filled b fs
    → ((n : ℕ) (e : Edited) → o n ≡ Some e → IsInline e) → AreOwnEdits es → AreTold es
