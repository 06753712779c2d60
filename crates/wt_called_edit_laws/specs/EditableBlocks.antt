-- Pages of which contents of paragraphs and headings may be edited, of those that hold calls, too.
use Rattle.std.specs.Prelude.{◌≡◌, ◌⊎◌, ℕ, None, List, [], ◌∷◌}
use Rattle.wt_expand.specs.PageCalls.{expanded_page}
use Rattle.wt_expand.specs.Work.{Pages}
use Rattle.wt_commands.specs.Answers.{refusal_of_page}
use Rattle.wt_text_edit_laws.specs.BlockSpots.{BlockSpot, spots_source}
use Rattle.wt_text_edit_laws.specs.Contents.{IsContent}
use Rattle.wt_text_edit_laws.specs.NoCalls.{CallsNothing}
use Rattle.wt_text_edit_laws.specs.TextBlocks.{TextBlock, source_of, block_items}
use Rattle.wt_called_edit_laws.specs.CallingBlocks.{AreCallingBlocks}
use Rattle.wt_called_edit_laws.specs.CallingEdits.{TakesLetters}
use Rattle.wt_called_edit_laws.specs.Covered.{HaveFreeBytes}
use Rattle.wt_called_edit_laws.specs.Groups.{called_tree}
use Rattle.wt_called_edit_laws.specs.WholeContents.{HoldsGroups}
use Rattle.wt_called_edit_laws.specs.WrittenAnew.{HoldsAnywhere}

-- A content with calls, each of which gives what may be a group in this folder: wherever it is in the page it is no part of what they give, text may be typed before
-- them, none of them is text itself, and no tag is left open.
pub record HoldsCalls (pages : Pages) (k : TextBlock) (q : List ℕ) : Type 0 where
  pub holds : HoldsAnywhere pages k q
  pub letters : TakesLetters pages k q
  pub texts : (expanded_page pages (source_of k q)).text_calls ≡ []
  pub whole : HoldsGroups pages k q

-- it is read by itself and calls nothing, or is such a one
abbrev pub IsEditableContent : Pages → TextBlock → List ℕ → Type 0
IsEditableContent pages k q = (IsContent k q × CallsNothing (block_items k q)) ⊎ HoldsCalls pages k q

abbrev pub AreEditableContents : Pages → List BlockSpot → Type 0
AreEditableContents pages [] = Unit {0}
AreEditableContents pages (s ∷ ss) = IsEditableContent pages s.block s.text × AreEditableContents pages ss

-- No call goes over the end of a part of the page or of a block, and by what the calls give each block is a block of its own (`AreCallingBlocks`); each of
-- them has a byte that no group of the page's tree has; and the page isn't refused: with what the folder has it can be expanded.
pub record IsEditableWithCalls (pages : Pages) (ss : List BlockSpot) (behind : List ℕ) : Type 0 where
  pub blocks : AreCallingBlocks pages ss behind
  pub contents : AreEditableContents pages ss
  pub unrefused : refusal_of_page pages (spots_source ss behind) ≡ None
  pub free : HaveFreeBytes 0 ss (called_tree pages (spots_source ss behind))
