-- Calls of the program that send a text typed in a paragraph in a cell, and how they end.
use Rattle.std.specs.Prelude.{◌≡◌, ◌⊎◌, ℕ, ◌≤◌, List, length, Option, Some}
use Rattle.wt_span.specs.declared.limits.TheConstants.{HTML_BYTES, PAGE_BYTES}
use Rattle.wt_devices.specs.Device.{Pages}
use Rattle.wt_tree.specs.Tree.{Label, Tree, label}
use Rattle.wt_schema.specs.Read.{page as as_page, read}
use Rattle.wt_checks.specs.Kept.{children}
use Rattle.wt_commands.specs.declared.command.Command.{Command}
use Rattle.wt_commands.specs.declared.command.Command.TheVariants.{Edit, Selser}
use Rattle.wt_commands.specs.declared.status.Status.TheVariants as status
use Rattle.wt_commands.specs.Calls.{Call, NothingFailed}
use Rattle.wt_commands.specs.Statuses.{code, IsFaultOrNoMemory}
use Rattle.wt_commands.specs.Words.{command_of}
use Rattle.wt_typed_blocks.specs.Sent.{Sents, new_body}
use Rattle.wt_program.specs.Calls.{WroteNewPage}
use Rattle.wt_text_edit_laws.specs.Parts.{part_tree}
use Rattle.wt_called_edit_laws.specs.UnmarkedCells.{unmarked_page, IsUnmarkedCellEdit}
use Rattle.wt_called_edit_laws.specs.CellEdits.{CellPage, page_with, IsCellPage, new_page, IsCellEdit, LeadsFrom}

-- the edited tree, in which the paragraph is marked
abbrev pub sent_page : CellPage → Sents → Label → Tree
sent_page p ss b = new_body (label (part_tree (page_with p p.text))) b ss

-- The words are those of this command for a title, the folder tells its pages and has the page under the title, and the input tells its bytes,
-- which are read as this edited tree. Neither the page nor the new one nor the input is longer than it may be.
pub record SendsInCell (c : Call) (command : List ℕ → Command) (p : CellPage) (text : List ℕ) (sent : Label → Tree) : Type 0 where
  pub title : List ℕ
  pub pages : Pages
  pub input : List ℕ
  pub body : Label
  pub unsourced : Option ℕ
  pub words : command_of c.words ≡ Some (command title)
  pub told : c.folder.pages_before ≡ Some pages
  pub found : pages title ≡ Some (page_with p p.text)
  pub given : c.input.left_before ≡ Some input
  pub reads : read input ≡ as_page (sent body) unsourced
  pub within : length input ≤ HTML_BYTES
  pub old_within : length (page_with p p.text) ≤ PAGE_BYTES
  pub new_within : length (new_page p text) ≤ PAGE_BYTES

-- The paragraph is at a path of the page's tree. Where a call sends a text typed there, and all else of the page as it is,
-- * `edit` has written the page with this text, in which every other byte is what it was; or a device failed, or memory ran out;
-- * where no device failed, only want of memory may come in its place;
-- * `selser`, for which nothing is marked, is done where the text is another one; or a device failed, or memory ran out.
pub record TakesThere (c : Call) (ended : ℕ) (p : CellPage) : Type 0 where
  pub path : List ℕ
  pub leads : LeadsFrom path (children (part_tree (page_with p p.text)))
  pub edit : (text : List ℕ) (ss : Sents) → IsCellEdit p path text ss → SendsInCell c Edit p text (sent_page p ss) → WroteNewPage c ended (new_page p text) ⊎ IsFaultOrNoMemory ended
  pub complete : (text : List ℕ) (ss : Sents) → IsCellEdit p path text ss → SendsInCell c Edit p text (sent_page p ss) → NothingFailed c
      → WroteNewPage c ended (new_page p text) ⊎ (ended ≡ code status.NoMemory)
  pub selser : (text : List ℕ) (ss : Sents) → IsUnmarkedCellEdit p path text ss → SendsInCell c Selser p text (unmarked_page p ss)
      → (ended ≡ code status.Done) ⊎ IsFaultOrNoMemory ended

-- A text edit in a cell is taken, of each such page.
abbrev pub TakesTextsInCells : Call → ℕ → Type 0
TakesTextsInCells c ended = (p : CellPage) → IsCellPage p → TakesThere c ended p
