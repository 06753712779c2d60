-- Contents are edited in the paragraphs and headings of a page with calls, with marks and without them.
use Rattle.std.specs.Prelude.{◌≡◌, ◌≤◌, ℕ, Option, Some, List, length, map}
use Rattle.wt_span.specs.declared.limits.TheConstants.{HTML_BYTES, PAGE_BYTES}
use Rattle.wt_devices.specs.Device.{Pages}
use Rattle.wt_tree.specs.Tree.{Label}
use Rattle.wt_page_round_trip.specs.PageTree.{page_tree}
use Rattle.wt_schema.specs.Read.{page as as_page, read}
use Rattle.wt_slices.specs.BodySlices.{slices}
use Rattle.wt_splice.specs.Splice.{spliced}
use Rattle.wt_visible.specs.SameNodes.{same_node}
use Rattle.wt_commands.specs.Answers.{done, edit_to}
use Rattle.wt_commands.specs.UnmarkedEdits.{DoneByEdit}
use Rattle.wt_typed_blocks.specs.Edited.{Edits}
use Rattle.wt_text_edit_laws.specs.BlockSpots.{BlockSpot, spots_source}
use Rattle.wt_called_edit_laws.specs.CalledPages.{IsCalledPage}
use Rattle.wt_called_edit_laws.specs.LocalChange.{ExpandsAlike, IsLocalChange}
use Rattle.wt_called_edit_laws.specs.CalledTexts.{spots_tree}
use Rattle.wt_called_edit_laws.specs.ChosenContents.{HasContentEdits}
use Rattle.wt_called_edit_laws.specs.EditsAt.{AllStand, edited_by, with_contents, edited_page, IsContentEdit, sent_contents, bare_contents, IsUnmarkedContentEdit}

-- The blocks are at paths of the page's tree at which their contents may be edited, in any of them at once:
-- * whatever contents that may be sent are chosen, there is such an edit;
-- * the edit is done, and the new page is the same with these contents in them, as they are spelled;
-- * this page is what the edit splices into the old one;
-- * without marks, too, `edit` of the difference is done;
-- * the new page is such a page again;
-- * the edit is local: what the page means outside of these blocks stays as it was;
-- * and the expansion is the same work, and each call gives what it gave.
pub record TakesContents (pages : Pages) (ss : List BlockSpot) (behind : List ℕ) : Type 0 where
  pub paths : List (List ℕ)
  pub stand : AllStand ss paths (spots_tree pages ss behind)
  pub edits : HasContentEdits (spots_tree pages ss behind) ss paths
  pub takes : (b : Label) (es : Edits) → IsContentEdit (spots_tree pages ss behind) ss paths es → length (edited_page ss behind paths es) ≤ PAGE_BYTES
      → edit_to pages (spots_source ss behind) (sent_contents (spots_tree pages ss behind) es b) ≡ done (edited_page ss behind paths es)
  pub makes : (b : Label) (es : Edits) → IsContentEdit (spots_tree pages ss behind) ss paths es
      → spliced (spots_source ss behind) (slices same_node (page_tree pages (spots_source ss behind)) (sent_contents (spots_tree pages ss behind) es b))
      ≡ edited_page ss behind paths es
  pub unmarked : (stands : Option (List ℕ)) (input : List ℕ) (b : Label) (unsourced : Option ℕ) (es : Edits)
      → IsUnmarkedContentEdit (spots_tree pages ss behind) ss paths es → stands ≡ Some (spots_source ss behind) → length (spots_source ss behind) ≤ PAGE_BYTES
      → length (edited_page ss behind paths es) ≤ PAGE_BYTES → length input ≤ HTML_BYTES
      → read input ≡ as_page (bare_contents (spots_tree pages ss behind) es b) unsourced → DoneByEdit pages stands input
  pub again : (es : Edits) → IsContentEdit (spots_tree pages ss behind) ss paths es → IsCalledPage pages (with_contents ss (map (edited_by es) paths)) behind
  pub local : (es : Edits) → IsContentEdit (spots_tree pages ss behind) ss paths es
      → IsLocalChange pages (spots_source ss behind) (edited_page ss behind paths es) es
  pub alike : (es : Edits) → IsContentEdit (spots_tree pages ss behind) ss paths es
      → ExpandsAlike pages (spots_source ss behind) (edited_page ss behind paths es)
