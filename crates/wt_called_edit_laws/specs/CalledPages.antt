-- The pages with calls of which text edits are taken.
use Rattle.std.specs.Prelude.{◌≡◌, ℕ, None, List}
use Rattle.wt_expand.specs.Work.{Pages, first_refusal}
use Rattle.wt_expand.specs.Expansion.{page_work}
use Rattle.wt_text_edit_laws.specs.BlockSpots.{BlockSpot, spots_source}
use Rattle.wt_called_edit_laws.specs.Groups.{AreOutsideGroups}

-- Paragraphs and headings that hold only text are among any calls, no node round one of them is in a group, and the page isn't refused: with what
-- the folder has it can be expanded.
pub record IsCalledPage (pages : Pages) (ss : List BlockSpot) (behind : List ℕ) : Type 0 where
  pub outside : AreOutsideGroups pages ss behind
  pub unrefused : first_refusal pages (spots_source ss behind) (page_work pages (spots_source ss behind)) ≡ None
