-- Pages of which blocks that hold calls may be edited, beside these calls.
use Rattle.std.specs.Prelude.{◌≡◌, ℕ, zero, suc, Option, Some, None, List, [], ◌∷◌}
use Rattle.wt_expand.specs.Expansion.{page_work}
use Rattle.wt_expand.specs.Work.{Pages, first_refusal}
use Rattle.wt_part_laws.specs.Placeless.{all_placeless}
use Rattle.wt_typed_blocks.specs.Edited.{Edited, Edits, page_nodes, edits_show}
use Rattle.wt_typed_blocks.specs.EditedPage.{edited_sources}
use Rattle.wt_visible.specs.Children.{shown_children, listed}
use Rattle.wt_visible.specs.SameNodes.{same_node}
use Rattle.wt_part_laws.specs.TreeFrames.{all_filled}
use Rattle.wt_text_edit_laws.specs.BlockSpots.{BlockSpot, spots_source}
use Rattle.wt_text_edit_laws.specs.TextBlocks.{TextBlock}
use Rattle.wt_called_edit_laws.specs.CalledTexts.{spots_tree}
use Rattle.wt_called_edit_laws.specs.CallingBlocks.{IsNewContentIn}
use Rattle.wt_called_edit_laws.specs.CallingGroups.{AreCallingOutside, block_with_groups, CallingNodesStay}
use Rattle.wt_called_edit_laws.specs.FreeBlocks.{NoTextCalls}
use Rattle.wt_called_edit_laws.specs.Sends.{AllSend, MakesNode}
use Rattle.wt_called_edit_laws.specs.WholeContents.{EachWhole}
use Rattle.wt_called_edit_laws.specs.WrittenAnew.{HoldsAnywhere, EachHolds}

-- ---- which blocks

-- Two contents may be written in the place of this one, each with its calls, that are the same but for their first letter. So it is where text may be
-- typed before its calls.
pub record TakesLetters (pages : Pages) (k : TextBlock) (q : List ℕ) : Type 0 where
  pub rest : List ℕ
  pub one : IsNewContentIn pages k q (97 ∷ rest)
  pub other : IsNewContentIn pages k q (98 ∷ rest)
  pub one_holds : HoldsAnywhere pages k (97 ∷ rest)
  pub other_holds : HoldsAnywhere pages k (98 ∷ rest)

abbrev pub AllTakeLetters : Pages → List BlockSpot → Type 0
AllTakeLetters pages [] = Unit {0}
AllTakeLetters pages (s ∷ ss) = TakesLetters pages s.block s.text × AllTakeLetters pages ss

-- ---- the page

-- It is expanded, the blocks are among calls and hold calls, none of which is text, and each block can be read by itself.
pub record IsCallingPage (pages : Pages) (ss : List BlockSpot) (behind : List ℕ) : Type 0 where
  pub outside : AreCallingOutside pages ss behind
  pub hold : EachHolds pages ss
  pub letters : AllTakeLetters pages ss
  pub texts : NoTextCalls pages ss
  pub whole : EachWhole pages ss
  pub unrefused : first_refusal pages (spots_source ss behind) (page_work pages (spots_source ss behind)) ≡ None

-- at this block nothing else is written
abbrev pub StaysAt : List BlockSpot → List BlockSpot → ℕ → Type 0
StaysAt [] rs n = Unit {0}
StaysAt (s ∷ ss) [] n = Unit {0}
StaysAt (s ∷ ss) (r ∷ rs) zero = r.text ≡ s.text
StaysAt (s ∷ ss) (r ∷ rs) (suc n) = StaysAt ss rs n

-- ---- what is sent

-- For some of these blocks contents are sent, each of which makes the block that the new page has, with its groups; all else is sent as it is.
pub record IsSentFor (pages : Pages) (ss rs : List BlockSpot) (behind : List ℕ) (f : CallingNodesStay pages ss behind) (o : ℕ → Option Edited) (es : Edits)
    : Type 0 where
  pub sends : AllSend o f.nodes es
  pub old : all_placeless (page_nodes es) ≡ all_filled (block_with_groups pages ss behind) f.nodes
  pub makes : (n : ℕ) (e : Edited) → o n ≡ Some e → MakesNode e (block_with_groups pages rs behind n)
  pub stay : (n : ℕ) → o n ≡ None → StaysAt ss rs n

-- What is sent makes this page: it is its source, and shows what it shows.
pub record MakesPage (pages : Pages) (rs : List BlockSpot) (behind : List ℕ) (es : Edits) : Type 0 where
  pub source : edited_sources same_node es ≡ spots_source rs behind
  pub shows : shown_children (spots_tree pages rs behind) ≡ listed (edits_show es)
