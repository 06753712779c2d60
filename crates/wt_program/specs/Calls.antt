-- Calls of the program that send such an edit, and how they end.
use Rattle.std.specs.Prelude.{◌≡◌, ◌⊎◌, ℕ, ◌≤◌, List, length, Option, Some}
use Rattle.wt_span.specs.declared.limits.TheConstants.{HTML_BYTES, PAGE_BYTES}
use Rattle.wt_devices.specs.Device.{Pages}
use Rattle.wt_tree.specs.Tree.{Label, Tree}
use Rattle.wt_schema.specs.Read.{page as as_page, read}
use Rattle.wt_commands.specs.declared.command.Command.{Command}
use Rattle.wt_commands.specs.declared.command.Command.TheVariants.{Edit, Selser}
use Rattle.wt_commands.specs.declared.status.Status.TheVariants as status
use Rattle.wt_commands.specs.Calls.{Call, NothingFailed}
use Rattle.wt_commands.specs.Devices.{Untouched, Took}
use Rattle.wt_commands.specs.Statuses.{code, IsFaultOrNoMemory}
use Rattle.wt_commands.specs.Words.{command_of}
use Rattle.wt_text_edit_laws.specs.BlockEdits.{BlockEdit, old_page, new_page, sent_page, IsBlockEdit}
use Rattle.wt_text_edit_laws.specs.UnmarkedBlocks.{unmarked_page, IsUnmarkedBlockEdit}

-- The words are those of this command for a title, the folder tells its pages and has the page under the title, and the input tells its
-- bytes, which are read as this edited tree. Neither the page nor the new one nor the input is longer than it may be.
pub record Sends (c : Call) (command : List ℕ → Command) (e : BlockEdit) (sent : Label → BlockEdit → Tree) : Type 0 where
  pub title : List ℕ
  pub pages : Pages
  pub input : List ℕ
  pub label : Label
  pub unsourced : Option ℕ
  pub words : command_of c.words ≡ Some (command title)
  pub told : c.folder.pages_before ≡ Some pages
  pub found : pages title ≡ Some (old_page e)
  pub given : c.input.left_before ≡ Some input
  pub reads : read input ≡ as_page (sent label e) unsourced
  pub within : length input ≤ HTML_BYTES
  pub old_within : length (old_page e) ≤ PAGE_BYTES
  pub new_within : length (new_page e) ≤ PAGE_BYTES

-- ---- how such a call ends

-- done: `out` took this page, and `err` nothing
abbrev pub WroteNewPage : Call → ℕ → List ℕ → Type 0
WroteNewPage c ended page = (ended ≡ code status.Done) × Took c.out page × Untouched c.err

-- A text edit is taken: where the call sends texts typed in paragraphs and headings of such a page, and all else of the page as it is,
-- * `edit` has written the page with these texts, in which every other byte is what it was; or a device failed, or memory ran out;
-- * where no device failed, only want of memory may come in its place;
-- * `selser`, for which nothing is marked, is done; or a device failed, or memory ran out.
pub record TakesTexts (c : Call) (ended : ℕ) : Type 0 where
  pub edit : (e : BlockEdit) → IsBlockEdit e → Sends c Edit e sent_page → WroteNewPage c ended (new_page e) ⊎ IsFaultOrNoMemory ended
  pub complete : (e : BlockEdit) → IsBlockEdit e → Sends c Edit e sent_page → NothingFailed c
      → WroteNewPage c ended (new_page e) ⊎ (ended ≡ code status.NoMemory)
  pub selser : (e : BlockEdit) → IsUnmarkedBlockEdit e → Sends c Selser e unmarked_page → (ended ≡ code status.Done) ⊎ IsFaultOrNoMemory ended
