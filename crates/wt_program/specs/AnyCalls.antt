-- Calls of the program that send texts typed in paragraphs and headings anywhere in a page, and how they end.
use Rattle.std.specs.Prelude.{◌≡◌, ◌⊎◌, ℕ, ◌≤◌, List, length, Option, Some}
use Rattle.wt_span.specs.declared.limits.TheConstants.{HTML_BYTES, PAGE_BYTES}
use Rattle.wt_devices.specs.Device.{Pages}
use Rattle.wt_tree.specs.Tree.{Label, Tree}
use Rattle.wt_schema.specs.Read.{page as as_page, read}
use Rattle.wt_commands.specs.declared.command.Command.{Command}
use Rattle.wt_commands.specs.declared.command.Command.TheVariants.{Edit, Selser}
use Rattle.wt_commands.specs.declared.status.Status.TheVariants as status
use Rattle.wt_commands.specs.Calls.{Call, NothingFailed}
use Rattle.wt_commands.specs.Statuses.{code, IsFaultOrNoMemory}
use Rattle.wt_commands.specs.Words.{command_of}
use Rattle.wt_typed_blocks.specs.Sent.{Sents}
use Rattle.wt_text_edit_laws.specs.BlockSpots.{BlockSpot, spots_source}
use Rattle.wt_program.specs.Calls.{WroteNewPage}
use Rattle.wt_text_edit_laws.specs.Parts.{part_tree}
use Rattle.wt_called_edit_laws.specs.AnyBlocks.{AreSpots, IsTextEdit, new_page, AllLead}
use Rattle.wt_called_edit_laws.specs.AnyTexts.{sent_page, unmarked_page, IsUnmarkedEdit}

-- The words are those of this command for a title, the folder tells its pages and has the page under the title, and the input tells its bytes,
-- which are read as this edited tree. Neither the page nor the new one nor the input is longer than it may be.
pub record SendsFor (c : Call) (command : List ℕ → Command) (page new : List ℕ) (sent : Label → Tree) : Type 0 where
  pub title : List ℕ
  pub pages : Pages
  pub input : List ℕ
  pub body : Label
  pub unsourced : Option ℕ
  pub words : command_of c.words ≡ Some (command title)
  pub told : c.folder.pages_before ≡ Some pages
  pub found : pages title ≡ Some page
  pub given : c.input.left_before ≡ Some input
  pub reads : read input ≡ as_page (sent body) unsourced
  pub within : length input ≤ HTML_BYTES
  pub old_within : length page ≤ PAGE_BYTES
  pub new_within : length new ≤ PAGE_BYTES

-- The blocks are at paths of the page's tree. Where a call sends texts typed at some of them, and all else of the page as it is,
-- * `edit` has written the page with these texts, in which every other byte is what it was; or a device failed, or memory ran out;
-- * where no device failed, only want of memory may come in its place;
-- * `selser`, for which nothing is marked, is done where each text is another one; or a device failed, or memory ran out.
pub record TakesThem (c : Call) (ended : ℕ) (ss : List BlockSpot) (behind : List ℕ) : Type 0 where
  pub paths : List (List ℕ)
  pub lead : AllLead ss paths (part_tree (spots_source ss behind))
  pub edit : (es : Sents) → IsTextEdit ss behind paths es → SendsFor c Edit (spots_source ss behind) (new_page ss behind paths es) (sent_page ss behind es)
      → WroteNewPage c ended (new_page ss behind paths es) ⊎ IsFaultOrNoMemory ended
  pub complete : (es : Sents) → IsTextEdit ss behind paths es → SendsFor c Edit (spots_source ss behind) (new_page ss behind paths es) (sent_page ss behind es)
      → NothingFailed c → WroteNewPage c ended (new_page ss behind paths es) ⊎ (ended ≡ code status.NoMemory)
  pub selser : (es : Sents) → IsUnmarkedEdit ss behind paths es
      → SendsFor c Selser (spots_source ss behind) (new_page ss behind paths es) (unmarked_page ss behind es)
      → (ended ≡ code status.Done) ⊎ IsFaultOrNoMemory ended

-- Texts are taken wherever they were typed, of each such page.
abbrev pub TakesTextsAnywhere : Call → ℕ → Type 0
TakesTextsAnywhere c ended = (ss : List BlockSpot) (behind : List ℕ) → AreSpots ss behind → TakesThem c ended ss behind
