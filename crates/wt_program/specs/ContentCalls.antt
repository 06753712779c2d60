-- Calls of the program that send paragraphs and headings of a page with calls with edited contents, and how they end.
use Rattle.std.specs.Prelude.{◌≡◌, ◌⊎◌, ℕ, List, map, Some}
use Rattle.wt_devices.specs.Device.{Pages}
use Rattle.wt_commands.specs.declared.command.Command.TheVariants.{Edit, Selser}
use Rattle.wt_commands.specs.declared.status.Status.TheVariants as status
use Rattle.wt_commands.specs.Calls.{Call, NothingFailed}
use Rattle.wt_commands.specs.Statuses.{code, IsFaultOrNoMemory}
use Rattle.wt_typed_blocks.specs.Edited.{Edits}
use Rattle.wt_text_edit_laws.specs.BlockSpots.{BlockSpot, spots_source}
use Rattle.wt_called_edit_laws.specs.CalledTexts.{spots_tree}
use Rattle.wt_called_edit_laws.specs.CalledBlocks.{counted}
use Rattle.wt_called_edit_laws.specs.CallingContents.{HasContentEditsIn, IsContentEditIn, IsUnmarkedContentEditIn}
use Rattle.wt_called_edit_laws.specs.CallingGroups.{block_with_groups}
use Rattle.wt_called_edit_laws.specs.EditableBlocks.{IsEditableWithCalls}
use Rattle.wt_called_edit_laws.specs.EditsAt.{edited_by, with_contents, edited_page, sent_contents, bare_contents}
use Rattle.wt_called_edit_laws.specs.SettledAt.{AllSettled}
use Rattle.wt_called_edit_laws.specs.SettledPages.{OnlyTheseAreOthers}
use Rattle.wt_program.specs.AnyCalls.{SendsFor}
use Rattle.wt_program.specs.Calls.{WroteNewPage}

-- The blocks are at paths of the page's tree, each with its groups, and whatever contents that may be sent are chosen for them, there is an edit with these. Where a call sends some of them with edited contents, and all else of the page as it is,
-- * `edit` has written the page with these contents, in which every other byte is what it was; or a device failed, or memory ran out;
-- * where no device failed, only want of memory may come in its place;
-- * `selser`, for which nothing is marked, is done where each of these blocks shows something else; or a device failed, or memory ran out;
-- * nothing but these blocks is another one in the page with these contents, and it has the same calls.
pub record TakesContentsThere (c : Call) (ended : ℕ) (pages : Pages) (ss : List BlockSpot) (behind : List ℕ) : Type 0 where
  pub paths : List (List ℕ)
  pub stand : AllSettled (block_with_groups pages ss behind) (counted ss) paths (spots_tree pages ss behind)
  pub edits : HasContentEditsIn pages (block_with_groups pages ss behind) (spots_tree pages ss behind) ss paths
  pub edit : (es : Edits) → IsContentEditIn pages (spots_tree pages ss behind) ss paths es
      → SendsFor c Edit (spots_source ss behind) (edited_page ss behind paths es) (sent_contents (spots_tree pages ss behind) es)
      → WroteNewPage c ended (edited_page ss behind paths es) ⊎ IsFaultOrNoMemory ended
  pub complete : (es : Edits) → IsContentEditIn pages (spots_tree pages ss behind) ss paths es
      → SendsFor c Edit (spots_source ss behind) (edited_page ss behind paths es) (sent_contents (spots_tree pages ss behind) es)
      → NothingFailed c → WroteNewPage c ended (edited_page ss behind paths es) ⊎ (ended ≡ code status.NoMemory)
  pub selser : (es : Edits) → IsUnmarkedContentEditIn pages (spots_tree pages ss behind) ss paths es
      → SendsFor c Selser (spots_source ss behind) (edited_page ss behind paths es) (bare_contents (spots_tree pages ss behind) es)
      → (ended ≡ code status.Done) ⊎ IsFaultOrNoMemory ended
  pub others : (es : Edits) → IsContentEditIn pages (spots_tree pages ss behind) ss paths es
      → OnlyTheseAreOthers pages ss (with_contents ss (map (edited_by es) paths)) behind

-- Contents are taken wherever they were edited, of each such page over a folder of these pages: the blocks may hold calls themselves.
abbrev pub TakesContentsAmongCalls : Call → ℕ → Type 0
TakesContentsAmongCalls c ended =
    (pages : Pages) (ss : List BlockSpot) (behind : List ℕ) → c.folder.pages_before ≡ Some pages → IsEditableWithCalls pages ss behind
    → TakesContentsThere c ended pages ss behind
