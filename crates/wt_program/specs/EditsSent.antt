-- Each edit of contents that can be written as HTML can be sent: there is HTML that is read as it.
use Rattle.std.specs.Prelude.{◌≡◌, ◌⊎◌, ◌≤◌, ℕ, Option, Some, None, List, length, map}
use Rattle.wt_span.specs.declared.limits.TheConstants.{HTML_BYTES, PAGE_BYTES}
use Rattle.wt_devices.specs.Device.{Pages}
use Rattle.wt_tree.specs.Tree.{Label, Tree, label}
use Rattle.wt_schema.specs.Read.{page as as_page, read}
use Rattle.wt_schema.specs.Written.{label_read}
use Rattle.wt_commands.specs.declared.command.Command.{Command}
use Rattle.wt_commands.specs.declared.command.Command.TheVariants.{Edit, Selser}
use Rattle.wt_commands.specs.Calls.{Call}
use Rattle.wt_commands.specs.Statuses.{IsFaultOrNoMemory}
use Rattle.wt_commands.specs.Words.{command_of}
use Rattle.wt_pagetool.specs.Promises.{Ends}
use Rattle.wt_checks.specs.Kept.{children}
use Rattle.wt_typed_blocks.specs.Edited.{Edits}
use Rattle.wt_text_edit_laws.specs.BlockSpots.{BlockSpot, spots_source}
use Rattle.wt_called_edit_laws.specs.CalledTexts.{spots_tree}
use Rattle.wt_called_edit_laws.specs.ChosenContents.{Choice, AreChosenIn, AllFitChosen, pieces_of}
use Rattle.wt_called_edit_laws.specs.EditsAt.{AllStand, edited_by, edited_page, IsContentEdit, sent_contents, bare_contents}
use Rattle.wt_called_edit_laws.specs.Groups.{called_tree}
use Rattle.wt_program.specs.AnyCalls.{SendsFor}
use Rattle.wt_program.specs.Calls.{WroteNewPage}
use Rattle.wt_program.specs.SentHtml.{edited_html, AreRead, AreChosenRead}

-- the body's label, as it is read
abbrev pub body_read : Tree → Label
body_read t = label_read (label t)

-- The page's HTML with these contents in its blocks is read as the edit without marks, and some HTML as the edit with its marks.
pub record HasHtml (t : Tree) (es : Edits) : Type 0 where
  pub unmarked : read (edited_html t es) ≡ as_page (bare_contents t es (body_read t)) None
  pub input : List ℕ
  pub unsourced : Option ℕ
  pub marked : read input ≡ as_page (sent_contents t es (body_read t)) unsourced

-- The words are those of this command for this title, the folder tells these pages and has this page under the title, and the input tells
-- these bytes, which are no more than an input may have.
pub record Gives (c : Call) (command : List ℕ → Command) (title : List ℕ) (pages : Pages) (page input : List ℕ) : Type 0 where
  pub words : command_of c.words ≡ Some (command title)
  pub told : c.folder.pages_before ≡ Some pages
  pub found : pages title ≡ Some page
  pub given : c.input.left_before ≡ Some input
  pub within : length input ≤ HTML_BYTES

-- Each call of `edit` to which this input is given for this page sends the edit, and so does each call of `selser` to which the HTML without marks
-- is given; where neither the page nor the new one is longer than it may be.
pub record CanBeSent (pages : Pages) (page : List ℕ) (es : Edits) : Type 0 where
  pub input : List ℕ
  pub edit : (c : Call) (title new : List ℕ) → Gives c Edit title pages page input → length page ≤ PAGE_BYTES → length new ≤ PAGE_BYTES
      → SendsFor c Edit page new (sent_contents (called_tree pages page) es)
  pub selser : (c : Call) (title new : List ℕ) → Gives c Selser title pages page (edited_html (called_tree pages page) es) → length page ≤ PAGE_BYTES
      → length new ≤ PAGE_BYTES → SendsFor c Selser page new (bare_contents (called_tree pages page) es)

-- There is an edit with these contents, and it can be sent; and each call that keeps what `run` promises, to which its input is given, has written the
-- new page, unless this gets too long; or a device failed, or memory ran out.
pub record IsSentSo (pages : Pages) (ss : List BlockSpot) (behind : List ℕ) (paths : List (List ℕ)) (at : Choice) : Type 0 where
  pub edits : Edits
  pub edit : IsContentEdit (spots_tree pages ss behind) ss paths edits
  pub are : map (λ p. pieces_of (edited_by edits p)) paths ≡ map at paths
  pub read : AreRead edits
  pub sent : CanBeSent pages (spots_source ss behind) edits
  pub written : (c : Call) (ended : ℕ) (title : List ℕ) → Ends c ended → Gives c Edit title pages (spots_source ss behind) sent.input
      → length (edited_page ss behind paths edits) ≤ PAGE_BYTES → WroteNewPage c ended (edited_page ss behind paths edits) ⊎ IsFaultOrNoMemory ended

-- The blocks of such a page are at these paths of its tree, and contents of them can be sent, whatever is chosen.
pub record AnyCanBeSent (pages : Pages) (ss : List BlockSpot) (behind : List ℕ) : Type 0 where
  pub paths : List (List ℕ)
  pub stand : AllStand ss paths (spots_tree pages ss behind)
  pub sent : (at : Choice) → AreChosenIn at (children (spots_tree pages ss behind)) → AllFitChosen at ss paths → AreChosenRead at paths
      → IsSentSo pages ss behind paths at
