-- Calls of the program that send texts typed in paragraphs and headings of a page with calls, and how they end.
use Rattle.std.specs.Prelude.{◌≡◌, ◌⊎◌, ℕ, List, Some}
use Rattle.wt_devices.specs.Device.{Pages}
use Rattle.wt_commands.specs.declared.command.Command.TheVariants.{Edit, Selser}
use Rattle.wt_commands.specs.declared.status.Status.TheVariants as status
use Rattle.wt_commands.specs.Calls.{Call, NothingFailed}
use Rattle.wt_commands.specs.Statuses.{code, IsFaultOrNoMemory}
use Rattle.wt_typed_blocks.specs.Sent.{Sents}
use Rattle.wt_text_edit_laws.specs.BlockSpots.{BlockSpot, spots_source}
use Rattle.wt_program.specs.Calls.{WroteNewPage}
use Rattle.wt_called_edit_laws.specs.AnyBlocks.{new_page, AllLead}
use Rattle.wt_program.specs.AnyCalls.{SendsFor}
use Rattle.wt_called_edit_laws.specs.TreeEdits.{IsEditOf, IsUnmarkedEditOf, sent_body, free_sent_body}
use Rattle.wt_called_edit_laws.specs.CalledTexts.{spots_tree}
use Rattle.wt_called_edit_laws.specs.Covered.{IsEditablePage}

-- The blocks are at paths of the page's tree. Where a call sends texts typed at some of them, and all else of the page as it is,
-- * `edit` has written the page with these texts, in which every other byte is what it was; or a device failed, or memory ran out;
-- * where no device failed, only want of memory may come in its place;
-- * `selser`, for which nothing is marked, is done where each text is another one; or a device failed, or memory ran out.
pub record TakesThemAmong (c : Call) (ended : ℕ) (pages : Pages) (ss : List BlockSpot) (behind : List ℕ) : Type 0 where
  pub paths : List (List ℕ)
  pub lead : AllLead ss paths (spots_tree pages ss behind)
  pub edit : (es : Sents) → IsEditOf (spots_tree pages ss behind) paths es
      → SendsFor c Edit (spots_source ss behind) (new_page ss behind paths es) (sent_body (spots_tree pages ss behind) es)
      → WroteNewPage c ended (new_page ss behind paths es) ⊎ IsFaultOrNoMemory ended
  pub complete : (es : Sents) → IsEditOf (spots_tree pages ss behind) paths es
      → SendsFor c Edit (spots_source ss behind) (new_page ss behind paths es) (sent_body (spots_tree pages ss behind) es)
      → NothingFailed c → WroteNewPage c ended (new_page ss behind paths es) ⊎ (ended ≡ code status.NoMemory)
  pub selser : (es : Sents) → IsUnmarkedEditOf (spots_tree pages ss behind) paths es
      → SendsFor c Selser (spots_source ss behind) (new_page ss behind paths es) (free_sent_body (spots_tree pages ss behind) es)
      → (ended ≡ code status.Done) ⊎ IsFaultOrNoMemory ended

-- Texts are taken wherever they were typed, of each such page over a folder of these pages.
abbrev pub TakesTextsAmongCalls : Call → ℕ → Type 0
TakesTextsAmongCalls c ended =
    (pages : Pages) (ss : List BlockSpot) (behind : List ℕ) → c.folder.pages_before ≡ Some pages → IsEditablePage pages ss behind
    → TakesThemAmong c ended pages ss behind
