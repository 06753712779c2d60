-- What a call of `run` promises. What is said of a device's pages or bytes holds where these can be
-- named, as of the devices in memory.
use Rattle.std.specs.Prelude.{◌≡◌, ◌≢◌, ◌⊎◌, ◌+◌, ℕ, ⊤, List, Option, Some, None, IfSome}
use Rattle.wt_expand.specs.Work.{Pages}
use Rattle.wt_span.specs.declared.limits.TheConstants.{HTML_BYTES}
use Rattle.wt_transclusion.specs.Stops.{AnswersFewer}
use Rattle.wt_commands.specs.declared.status.Status.TheVariants as status
use Rattle.wt_commands.specs.declared.command.Command.{Command}
use Rattle.wt_commands.specs.declared.command.Command.TheVariants.{Page, Expand, Edit, Selser, Gen, Wikitext}
use Rattle.wt_commands.specs.declared.command.PageCommand.{PageCommand}
use Rattle.wt_commands.specs.declared.wikitext_command.TheConstants.{PIECE}
use Rattle.wt_commands.specs.Answers.{done as answered, html_answer, status_of_answer, IsNoText}
use Rattle.wt_commands.specs.Asked.{AnswersAll, AnswersFirst}
use Rattle.wt_commands.specs.Calls.{Call, known_answer, KeptCounts, NothingFailed}
use Rattle.wt_commands.specs.GivenBack.{GaveBack}
use Rattle.wt_commands.specs.Inputs.{GivesAtMost}
use Rattle.wt_commands.specs.Reports.{WasDone, WasRefused, OutFailed, ErrFailed}
use Rattle.wt_pagetool.specs.Rewrites.{WroteSelser}
use Rattle.wt_commands.specs.Reports.{WrotePage, WroteExpansion, WroteEdit, WroteCounts, WroteSource}
use Rattle.wt_commands.specs.UnmarkedEdits.{DoneByEdit}
use Rattle.wt_pagetool.specs.Selser.{IsUnchanged, RefusedSelser}
use Rattle.wt_commands.specs.Statuses.{code, IsDoneOrRefused, IsFaultOrNoMemory}
use Rattle.wt_commands.specs.Words.{command_of}

-- ---- what is written

-- What each command wrote, when it is done:
-- * `html`, `ranges` or `lint` the HTML, the listing or the doubtful places of the tree of the expanded page;
-- * `expand` the items of the expanded page: a character by its bytes, an atom by its source, and nothing for a mark;
-- * `wikitext` the source of the tree that the input stands for, which it read to its end;
-- * `edit` the page with the slices of what is marked, and no others, replaced, for the input that it read to its end;
-- * `selser` a new page that shows what the input shows, which it read to its end: the page with places of the difference, and nothing
--   else, written anew, or the page as it is where nothing differs, or what `edit` makes of the marks of the difference;
-- * `gen` the line of the page that is made with so many sections.
pub record Wrote (c : Call) (ended : ℕ) : Type 0 where
  pub page : (command : PageCommand) (title : List ℕ) → command_of c.words ≡ Some (Page command title) → ended ≡ code status.Done
      → IfSome c.folder.pages_before (λ pages. WrotePage command pages title c.out.taken_before c.out.taken_after)
  pub expansion : (title : List ℕ) → command_of c.words ≡ Some (Expand title) → ended ≡ code status.Done
      → IfSome c.folder.pages_before (λ pages. WroteExpansion pages title c.out.taken_before c.out.taken_after)
  pub wikitext : command_of c.words ≡ Some Wikitext → ended ≡ code status.Done
      → IfSome c.input.left_before (λ bytes. WroteSource bytes c.input.left_after c.out.taken_before c.out.taken_after)
  pub edit : (title : List ℕ) → command_of c.words ≡ Some (Edit title) → ended ≡ code status.Done
      → IfSome c.folder.pages_before (λ pages. IfSome c.input.left_before
      (λ bytes. WroteEdit pages title bytes c.input.left_after c.out.taken_before c.out.taken_after))
  pub selser : (title : List ℕ) → command_of c.words ≡ Some (Selser title) → ended ≡ code status.Done
      → IfSome c.folder.pages_before (λ pages. IfSome c.input.left_before
      (λ bytes. WroteSelser pages title bytes c.input.left_after c.out.taken_before c.out.taken_after))
  pub counted : (count : ℕ) → command_of c.words ≡ Some (Gen count) → ended ≡ code status.Done
      → WroteCounts count c.out.taken_before c.out.taken_after

-- When a page is given back: the call wrote this very page; or a device failed, or memory ran out.
-- * `wikitext`, where the input is the HTML that `html` answers for the page, over whatever folder;
-- * `edit` and `selser`, where the input is, unchanged, the HTML that `html` answers for the page under the title;
-- * `selser`, where the input differs from that only in what isn't compared: it stands for a tree none of whose nodes is refused, in
--   which nothing differs from the page's, and which shows what the page shows.
pub record GivesBack (c : Call) (ended : ℕ) : Type 0 where
  pub gives_back : command_of c.words ≡ Some Wikitext → IfSome c.input.left_before
      (λ bytes. (pages : Pages) (page : List ℕ) → html_answer pages (Some page) ≡ answered bytes
      → GaveBack page ended c.out.taken_before c.out.taken_after)
  pub changes_nothing : (title : List ℕ) → command_of c.words ≡ Some (Edit title)
      → IfSome c.folder.pages_before (λ pages. IfSome c.input.left_before
      (λ bytes. (page : List ℕ) → pages title ≡ Some page → html_answer pages (Some page) ≡ answered bytes
      → GaveBack page ended c.out.taken_before c.out.taken_after))
  pub selser_changes_nothing : (title : List ℕ) → command_of c.words ≡ Some (Selser title)
      → IfSome c.folder.pages_before (λ pages. IfSome c.input.left_before
      (λ bytes. (page : List ℕ) → pages title ≡ Some page → html_answer pages (Some page) ≡ answered bytes
      → GaveBack page ended c.out.taken_before c.out.taken_after))
  pub selser_keeps : (title : List ℕ) → command_of c.words ≡ Some (Selser title)
      → IfSome c.folder.pages_before (λ pages. IfSome c.input.left_before
      (λ bytes. (page : List ℕ) → pages title ≡ Some page → IsUnchanged pages page bytes
      → GaveBack page ended c.out.taken_before c.out.taken_after))

-- How `selser` ends beside `edit`.
-- * Where `edit` of the input with the marks of the difference is done, `selser` of the input is done; or a device failed, or memory ran
--   out.
-- * Where it is refused for what it was given, it ends with the status of a refusal that has its cause, and `err` took its line: that of
--   what is under the title, of the input, of the page's expansion or of the nodes of the edited tree; or else `edit` refuses the
--   input with the marks of the difference, too, or its new page, and the refusal is what `edit` says of the content or of its new page's
--   length, or what the first new page that was tried is refused for.
pub record EndsAsEdit (c : Call) (ended : ℕ) : Type 0 where
  pub selser_as_edit : (title : List ℕ) → command_of c.words ≡ Some (Selser title)
      → IfSome c.folder.pages_before (λ pages. IfSome c.input.left_before
      (λ bytes. DoneByEdit pages (pages title) bytes → (ended ≡ code status.Done) ⊎ IsFaultOrNoMemory ended))
  pub selser_refused : (title : List ℕ) → command_of c.words ≡ Some (Selser title) → IsDoneOrRefused ended → ended ≢ code status.Done
      → IfSome c.folder.pages_before (λ pages. IfSome c.input.left_before (λ bytes. RefusedSelser pages (pages title) bytes ended c.err))

-- ---- how a call ends

-- * With the status of the answer to the words over the folder's pages and the input, or with that of a fault or of want of memory; where
--   no device failed, only want of memory may come in its place.
-- * Done: `out` took the whole answer, and `err` nothing.
-- * Refused: `out` took nothing, and `err` the one line of a refusal that is due and has this status.
-- * A write fault: `out` failed and took a front of the answer, and `err` the line of a write fault or a front of it; or `err` failed in
--   the line of a refusal that is due, and `out` took nothing.
-- * Done, or refused for its words, page, HTML or edit: no device's count of faults changed.
-- * A fault of the input or of the folder: the other one's count is kept, so this one failed, once, and no other device did.
pub record Ends (c : Call) (ended : ℕ) : Type 0 where
  pub exact : IfSome (known_answer c) (λ a. (ended ≡ code (status_of_answer a)) ⊎ IsFaultOrNoMemory ended)
  pub complete : NothingFailed c
      → IfSome (known_answer c) (λ a. (ended ≡ code (status_of_answer a)) ⊎ (ended ≡ code status.NoMemory))
  pub done : ended ≡ code status.Done → WasDone c
  pub refused : ended ≢ code status.Done → ended ≢ code status.WriteFault → WasRefused c ended
  pub write_fault : ended ≡ code status.WriteFault → OutFailed c ⊎ ErrFailed c
  pub kept : IsDoneOrRefused ended → KeptCounts c
  pub read_fault : ended ≡ code status.ReadFault → c.folder.faults_after ≡ c.folder.faults_before
  pub folder_fault : ended ≡ code status.FolderFault → c.input.faults_after ≡ c.input.faults_before

-- ---- what the devices are asked for

-- Of the names that the command asks for, where they are known, the folder answered the first ones, in their order and no others: all of
-- them where the call is done or refused; and not all of them where a fetch failed, which was that of the next name, in its turn: nothing
-- that is done before it is refused.
pub record AsksFor (told : Option (List (List ℕ))) (ended : ℕ) (before after : Option (List (List ℕ))) : Type 0 where
  pub first_names : IfSome told (λ names. AnswersFirst names before after)
  pub all_names : IsDoneOrRefused ended → IfSome told (λ names. AnswersAll names before after)
  pub fewer_names : ended ≡ code status.FolderFault → IfSome told (λ names. AnswersFewer names before after)

-- No more of the input was read than the longest HTML and one piece; and where it failed, no more than the longest HTML before. The fault
-- is where the reading stopped.
pub record ReadsAtMost (c : Call) (ended : ℕ) : Type 0 where
  pub takes : GivesAtMost (HTML_BYTES + PIECE) c.input.left_before c.input.left_after
  pub stops : ended ≡ code status.ReadFault → GivesAtMost HTML_BYTES c.input.left_before c.input.left_after

-- `edit` and `selser` leave the input alone where there is no text under the title.
abbrev pub Waits : {T : Type 0} → Option Command → Option Pages → T → T → Type 0
Waits None told before after = ⊤
Waits (Some (Page command title)) told before after = ⊤
Waits (Some (Expand title)) told before after = ⊤
Waits (Some (Edit title)) told before after = IfSome told (λ pages. IsNoText (pages title) → after ≡ before)
Waits (Some (Selser title)) told before after = IfSome told (λ pages. IsNoText (pages title) → after ≡ before)
Waits (Some (Gen n)) told before after = ⊤
Waits (Some Wikitext) told before after = ⊤
