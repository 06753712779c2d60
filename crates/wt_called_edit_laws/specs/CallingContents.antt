-- Contents that are edited in paragraphs and headings of a page that may hold calls, at paths of the page's tree, with marks and without them.
use Rattle.std.specs.Prelude.{◌≡◌, ◌≤◌, ◌⊎◌, ℕ, zero, suc, Option, Some, None, List, [], ◌∷◌, length, map}
use Rattle.wt_span.specs.declared.limits.TheConstants.{HTML_BYTES, PAGE_BYTES}
use Rattle.wt_tree.specs.Tree.{Label, Tree}
use Rattle.wt_checks.specs.Kept.{children}
use Rattle.wt_commands.specs.Answers.{done, edit_to}
use Rattle.wt_commands.specs.UnmarkedEdits.{DoneByEdit}
use Rattle.wt_expand.specs.Work.{Pages}
use Rattle.wt_page_round_trip.specs.PageTree.{page_tree}
use Rattle.wt_schema.specs.Read.{page as as_page, read}
use Rattle.wt_slices.specs.BodySlices.{slices}
use Rattle.wt_splice.specs.Splice.{spliced}
use Rattle.wt_visible.specs.SameNodes.{same_node}
use Rattle.wt_typed_blocks.specs.Edited.{Pieces, Edited, stays, edited, round, Edits, page_node, page_nodes, AreEdited}
use Rattle.wt_text_edit_laws.specs.BlockSpots.{BlockSpot, spots_source}
use Rattle.wt_text_edit_laws.specs.Contents.{IsContent}
use Rattle.wt_text_edit_laws.specs.NoCalls.{CallsNothing}
use Rattle.wt_text_edit_laws.specs.TextBlocks.{TextBlock, block_of, block_items}
use Rattle.wt_called_edit_laws.specs.CalledBlocks.{counted}
use Rattle.wt_called_edit_laws.specs.CalledEdits.{IsBesideCalls, IsCalledEditOf}
use Rattle.wt_called_edit_laws.specs.CalledTexts.{spots_tree}
use Rattle.wt_called_edit_laws.specs.CallingEdits.{IsCallingPage}
use Rattle.wt_called_edit_laws.specs.CallingGroups.{block_with_groups}
use Rattle.wt_called_edit_laws.specs.ChosenContents.{Choice, AreChosenIn, pieces_of}
use Rattle.wt_called_edit_laws.specs.EditsAt.{edited_by, AllEditOnly, with_contents, edited_page, Fits, sent_contents, bare_contents, AreOwnEdits}
use Rattle.wt_called_edit_laws.specs.SettledAt.{IsSettledAt, AllSettled}
use Rattle.wt_called_edit_laws.specs.LocalChange.{IsLocalChange}
use Rattle.wt_called_edit_laws.specs.SettledPages.{OnlyTheseAreOthers}
use Rattle.wt_called_edit_laws.specs.StyledCallEdits.{IsBesideStyles, IsStyledCallEdit}

-- ---- which contents may be sent

-- Where a block calls nothing, what may be sent for any such block (`Fits`). Where it holds calls, any texts beside these and beside
-- its other nodes: each call stays; a paragraph isn't calls alone, and in a heading no line break is typed. Bold and italic, too, may stay, go and come, as
-- they may nest, with any texts in them, and calls that give no bold or italic of their own.
abbrev pub FitsIn : Pages → TextBlock → List ℕ → Edited → Type 0
FitsIn pages k q (stays t u) = ⊥
FitsIn pages k q (edited j l m ps) =
    (IsContent k q × CallsNothing (block_items k q) × Fits k q (edited j l m ps))
    ⊎ ((IsBesideCalls pages k q (page_node (edited j l m ps)) × IsCalledEditOf pages k (page_node (edited j l m ps)) ps)
    ⊎ (IsBesideStyles pages k q (page_node (edited j l m ps)) × IsStyledCallEdit pages k (page_node (edited j l m ps)) ps))
FitsIn pages k q (round l m es) = ⊥

-- what holds of a content, where one is sent
abbrev pub IfSent : (Edited → Type 0) → Option Edited → Type 0
IfSent P None = Unit {0}
IfSent P (Some e) = P e

abbrev pub AreFittingIn : Pages → List BlockSpot → List (Option Edited) → Type 0
AreFittingIn pages [] [] = Unit {0}
AreFittingIn pages [] (o ∷ os) = ⊥
AreFittingIn pages (s ∷ ss) [] = ⊥
AreFittingIn pages (s ∷ ss) (o ∷ os) = IfSent (FitsIn pages s.block s.text) o × AreFittingIn pages ss os

-- ---- the edit

-- Of the blocks at these paths of the page's tree some contents are edited, and all else is sent as it is.
pub record IsContentEditIn (pages : Pages) (t : Tree) (ss : List BlockSpot) (paths : List (List ℕ)) (es : Edits) : Type 0 where
  pub old : page_nodes es ≡ children t
  pub sent : AreEdited es
  pub edits : AllEditOnly paths es
  pub fit : AreFittingIn pages ss (map (edited_by es) paths)

-- without marks, what stays is the page's own in all that the difference looks at, and each of these contents is another one than the block held
pub record IsUnmarkedContentEditIn (pages : Pages) (t : Tree) (ss : List BlockSpot) (paths : List (List ℕ)) (es : Edits) : Type 0 where
  pub edit : IsContentEditIn pages t ss paths es
  pub own : AreOwnEdits es

-- ---- which may be chosen

-- these pieces, for the block that is this node
abbrev pub FitChosenIn : Pages → Tree → TextBlock → List ℕ → Option Pieces → Type 0
FitChosenIn pages v k q None = Unit {0}
FitChosenIn pages v k q (Some ps) =
    (l m : Label) → IsSettledAt v (page_node (edited (block_of k) l m ps)) → FitsIn pages k q (edited (block_of k) l m ps)

abbrev pub AllFitChosenIn : Pages → (ℕ → Tree) → Choice → List BlockSpot → List (List ℕ) → Type 0
AllFitChosenIn pages b at [] ps = Unit {0}
AllFitChosenIn pages b at (s ∷ ss) [] = Unit {0}
AllFitChosenIn pages b at (s ∷ ss) (p ∷ ps) = FitChosenIn pages (b zero) s.block s.text (at p) × AllFitChosenIn pages (λ n. b (suc n)) at ss ps

-- an edit that sends these pieces at these paths, and all else as it is
pub record AreSentAtIn (pages : Pages) (t : Tree) (ss : List BlockSpot) (paths : List (List ℕ)) (at : Choice) : Type 0 where
  pub edits : Edits
  pub edit : IsContentEditIn pages t ss paths edits
  pub are : map (λ p. pieces_of (edited_by edits p)) paths ≡ map at paths

-- Whatever contents that may be sent are chosen for these blocks, there is one.
abbrev pub HasContentEditsIn : Pages → (ℕ → Tree) → Tree → List BlockSpot → List (List ℕ) → Type 0
HasContentEditsIn pages b t ss paths = (at : Choice) → AreChosenIn at (children t) → AllFitChosenIn pages b at ss paths → AreSentAtIn pages t ss paths at

-- ---- they are taken

-- The blocks are at paths of the page's tree, each with its groups, and their contents may be edited there, in any of them at once:
-- * whatever contents that may be sent are chosen, there is such an edit;
-- * the edit is done, and the new page is the same with these contents in them, as they are spelled;
-- * this page is what the edit splices into the old one;
-- * without marks, too, `edit` of the difference is done;
-- * nothing but these blocks is another one in the new page, and it has the same calls;
-- * it is such a page again;
-- * and the edit is local, told by what is sent for each node.
pub record TakesContentsIn (pages : Pages) (ss : List BlockSpot) (behind : List ℕ) : Type 0 where
  pub paths : List (List ℕ)
  pub stand : AllSettled (block_with_groups pages ss behind) (counted ss) paths (spots_tree pages ss behind)
  pub edits : HasContentEditsIn pages (block_with_groups pages ss behind) (spots_tree pages ss behind) ss paths
  pub takes : (b : Label) (es : Edits) → IsContentEditIn pages (spots_tree pages ss behind) ss paths es → length (edited_page ss behind paths es) ≤ PAGE_BYTES
      → edit_to pages (spots_source ss behind) (sent_contents (spots_tree pages ss behind) es b) ≡ done (edited_page ss behind paths es)
  pub makes : (b : Label) (es : Edits) → IsContentEditIn pages (spots_tree pages ss behind) ss paths es
      → spliced (spots_source ss behind) (slices same_node (page_tree pages (spots_source ss behind)) (sent_contents (spots_tree pages ss behind) es b))
      ≡ edited_page ss behind paths es
  pub unmarked : (stands : Option (List ℕ)) (input : List ℕ) (b : Label) (unsourced : Option ℕ) (es : Edits)
      → IsUnmarkedContentEditIn pages (spots_tree pages ss behind) ss paths es → stands ≡ Some (spots_source ss behind)
      → length (spots_source ss behind) ≤ PAGE_BYTES → length (edited_page ss behind paths es) ≤ PAGE_BYTES → length input ≤ HTML_BYTES
      → read input ≡ as_page (bare_contents (spots_tree pages ss behind) es b) unsourced → DoneByEdit pages stands input
  pub others : (es : Edits) → IsContentEditIn pages (spots_tree pages ss behind) ss paths es
      → OnlyTheseAreOthers pages ss (with_contents ss (map (edited_by es) paths)) behind
  pub again : (es : Edits) → IsContentEditIn pages (spots_tree pages ss behind) ss paths es
      → IsCallingPage pages (with_contents ss (map (edited_by es) paths)) behind
  pub local : (es : Edits) → IsContentEditIn pages (spots_tree pages ss behind) ss paths es
      → IsLocalChange pages (spots_source ss behind) (edited_page ss behind paths es) es
