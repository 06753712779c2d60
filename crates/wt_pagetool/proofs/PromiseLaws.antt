-- What `run` promises, record by record: from what was found and what was reported.
use Rattle.std.proofs.Common.{◌≡◌, ℕ, List, refl, subst}
use Rattle.std.specs.Prelude.{◌+◌, Option, Some, None, IfSome, IfErr, OnOk, Result, Ok, Err}
use Rattle.std.specs.Io.KnownBytes.{IsAtEnd}
use Rattle.wt_span.specs.declared.limits.TheConstants.{HTML_BYTES}
use Rattle.wt_transclusion.specs.Asked.{AreFirst}
use Rattle.wt_commands.specs.declared.command.Command.{Command}
use Rattle.wt_commands.specs.declared.command.Command.TheVariants.{Page, Expand, Edit, Selser, Gen, Wikitext}
use Rattle.wt_commands.specs.declared.output.Output.{Output}
use Rattle.wt_commands.specs.declared.refusal.Refusal.{Refusal}
use Rattle.wt_commands.specs.declared.status.Status.{Status}
use Rattle.wt_commands.specs.declared.status.Status.TheVariants as status
use Rattle.wt_commands.specs.declared.wikitext_command.TheConstants.{PIECE}
use Rattle.wt_commands.specs.Answers.{answer_told}
use Rattle.wt_commands.specs.Asked.{AsksNames}
use Rattle.wt_commands.specs.Calls.{call, IsDue, IsDueAs}
use Rattle.wt_commands.specs.Causes.{Answered, FailsAlone, IsKept, found_status}
use Rattle.wt_commands.specs.Devices.{SourceUse, FolderUse, SinkUse}
use Rattle.wt_commands.specs.Inputs.{GivesAtMost, StopsWithin}
use Rattle.wt_pagetool.specs.Promises.{Wrote, GivesBack, EndsAsEdit, Ends, AsksFor, ReadsAtMost}
use Rattle.wt_commands.specs.Reports.{Reported}
use Rattle.wt_pagetool.specs.Selser.{AnswersSelser}
use Rattle.wt_commands.specs.Statuses.{code}
use Rattle.wt_commands.specs.Words.{command_of, Fetches, Reads}
use Rattle.wt_commands.proofs.FaultLaws.{read_fault_stops}
use Rattle.wt_commands.proofs.GivenBackLaws.{run_gives_back}
use Rattle.wt_commands.proofs.RunLaws.{found_folder_fault, found_read_fault, run_page, run_wikitext, run_exact, run_done, run_refused, run_fault, run_complete, run_kept, run_all, run_asks, run_fewer, run_expansion, run_counts, run_edit}
use Rattle.wt_pagetool.proofs.SelserRuns.{run_selser, run_selser_as_edit, run_selser_refused}
use Rattle.wt_pagetool.proofs.SelserUnchanged.{run_selser_changes_nothing, run_selser_keeps}
use Rattle.wt_commands.proofs.UnchangedLaws.{run_changes_nothing}

-- What was found for `selser`.
abbrev pub FoundBySelser : List (List ℕ) → SourceUse → FolderUse → Result Output Refusal → Type 0
FoundBySelser words input folder found = (title : List ℕ) → command_of words ≡ Some (Selser title)
    → IfSome folder.pages_before (λ pages. IfSome input.left_before (λ bytes. AnswersSelser pages (pages title) bytes found))

pub run_wrote : (words : List (List ℕ)) (input : SourceUse) (folder : FolderUse) (out err : SinkUse)
    (found : Result Output Refusal) (s : Status) (ended : ℕ) → ended ≡ code s
    → IfSome (answer_told folder.pages_before input.left_before words) (λ a. Answered a found) → FoundBySelser words input folder found
    → IfErr found (IsDue words input folder) → (Reads (command_of words) → OnOk found (IsAtEnd input.left_after))
    → Reported found s out err → Wrote (call words input folder out err) ended
run_wrote words input folder out err found s ended is a selser due ends r = record {
  page = run_page words input folder out err found s ended is a due r;
  expansion = run_expansion words input folder out err found s ended is a due r;
  wikitext = run_wikitext words input folder out err found s ended is a due ends r;
  edit = run_edit words input folder out err found s ended is a due ends r;
  selser = run_selser words input folder out err found s ended is selser due ends r;
  counted = run_counts words input folder out err found s ended is a due r;
}

pub run_given_back : (words : List (List ℕ)) (input : SourceUse) (folder : FolderUse) (out err : SinkUse)
    (found : Result Output Refusal) (s : Status) (ended : ℕ) → ended ≡ code s
    → IfSome (answer_told folder.pages_before input.left_before words) (λ a. Answered a found) → FoundBySelser words input folder found
    → Reported found s out err → GivesBack (call words input folder out err) ended
run_given_back words input folder out err found s ended is a selser r = record {
  gives_back = λ w. run_gives_back folder.pages_before input.left_before words found s ended out err is w a r;
  changes_nothing = λ title w. run_changes_nothing folder.pages_before input.left_before words found s ended out err is title w a r;
  selser_changes_nothing = λ title w. run_selser_changes_nothing folder.pages_before input.left_before title found s ended out err is
      (selser title w) r;
  selser_keeps = λ title w. run_selser_keeps folder.pages_before input.left_before title found s ended out err is (selser title w) r;
}

pub run_ends_as_edit : (words : List (List ℕ)) (input : SourceUse) (folder : FolderUse) (out err : SinkUse)
    (found : Result Output Refusal) (s : Status) (ended : ℕ) → ended ≡ code s → FoundBySelser words input folder found
    → Reported found s out err → EndsAsEdit (call words input folder out err) ended
run_ends_as_edit words input folder out err found s ended is selser r = record {
  selser_as_edit = λ title w. run_selser_as_edit folder.pages_before input.left_before title found s ended out err is (selser title w) r;
  selser_refused = λ title w e n. run_selser_refused folder.pages_before input.left_before title found s ended out err is
      (selser title w) r e n;
}

-- ---- which device failed

-- a fault of the input is due in a command that reads, and one of the folder in one that fetches
due_reads : (words : List (List ℕ)) (input : SourceUse) (folder : FolderUse) (found : Result Output Refusal)
    → IfErr found (IsDue words input folder) → found_status found ≡ status.ReadFault → Reads (command_of words)
due_reads words input folder (Ok output) due e = absurd (let x : status.Done ≡ status.ReadFault = e in cc)
due_reads words input folder (Err r) due e = (subst (λ s. IsDueAs s words input folder r) e due).0

due_fetches : (words : List (List ℕ)) (input : SourceUse) (folder : FolderUse) (found : Result Output Refusal)
    → IfErr found (IsDue words input folder) → found_status found ≡ status.FolderFault → Fetches (command_of words)
due_fetches words input folder (Ok output) due e = absurd (let x : status.Done ≡ status.FolderFault = e in cc)
due_fetches words input folder (Err r) due e = (subst (λ s. IsDueAs s words input folder r) e due).0

-- of a command that reads and fetches it is said
abbrev IsSaid : Option Command → Status → ℕ → ℕ → ℕ → ℕ → Type 0
IsSaid command s i j f g = (title : List ℕ) → (command ≡ Some (Edit title) → FailsAlone s i j f g) × (command ≡ Some (Selser title) → FailsAlone s i j f g)

-- by the command that the words name
alone_by : (command : Option Command) (s : Status) (i j f g : ℕ) → (s ≡ status.ReadFault → Reads command)
    → (s ≡ status.FolderFault → Fetches command) → ((Reads command → ⊥) → j ≡ i) → ((Fetches command → ⊥) → g ≡ f)
    → IsSaid command s i j f g → FailsAlone s i j f g
alone_by None s i j f g reads fetches unread unasked said = record { input = λ e. absurd (reads e); folder = λ e. absurd (fetches e) }
alone_by (Some (Page command title)) s i j f g reads fetches unread unasked said =
    record { input = λ e. absurd (reads e); folder = λ e. unread (λ r. r) }
alone_by (Some (Expand title)) s i j f g reads fetches unread unasked said =
    record { input = λ e. absurd (reads e); folder = λ e. unread (λ r. r) }
alone_by (Some (Edit title)) s i j f g reads fetches unread unasked said = (said title).0 refl
alone_by (Some (Selser title)) s i j f g reads fetches unread unasked said = (said title).1 refl
alone_by (Some (Gen n)) s i j f g reads fetches unread unasked said = record { input = λ e. absurd (reads e); folder = λ e. absurd (fetches e) }
alone_by (Some Wikitext) s i j f g reads fetches unread unasked said =
    record { input = λ e. unasked (λ r. r); folder = λ e. absurd (fetches e) }

pub run_alone : (words : List (List ℕ)) (input : SourceUse) (folder : FolderUse) (found : Result Output Refusal)
    → IfErr found (IsDue words input folder)
    → ((Reads (command_of words) → ⊥) → input.faults_after ≡ input.faults_before)
    → ((Fetches (command_of words) → ⊥) → folder.faults_after ≡ folder.faults_before)
    → ((title : List ℕ) → command_of words ≡ Some (Edit title)
    → FailsAlone (found_status found) input.faults_before input.faults_after folder.faults_before folder.faults_after)
    → ((title : List ℕ) → command_of words ≡ Some (Selser title)
    → FailsAlone (found_status found) input.faults_before input.faults_after folder.faults_before folder.faults_after)
    → FailsAlone (found_status found) input.faults_before input.faults_after folder.faults_before folder.faults_after
run_alone words input folder found due unread unasked edit selser =
    alone_by (command_of words) (found_status found) input.faults_before input.faults_after folder.faults_before folder.faults_after
    (due_reads words input folder found due) (due_fetches words input folder found due) unread unasked (λ title. (edit title, selser title))

pub run_ends : (words : List (List ℕ)) (input : SourceUse) (folder : FolderUse) (out err : SinkUse)
    (found : Result Output Refusal) (s : Status) (ended : ℕ) → ended ≡ code s
    → IfSome (answer_told folder.pages_before input.left_before words) (λ a. Answered a found)
    → IfErr found (IsDue words input folder) → Reported found s out err
    → IsKept found input.faults_before input.faults_after → IsKept found folder.faults_before folder.faults_after
    → FailsAlone (found_status found) input.faults_before input.faults_after folder.faults_before folder.faults_after
    → Ends (call words input folder out err) ended
run_ends words input folder out err found s ended is a due r i f alone = record {
  exact = run_exact (answer_told folder.pages_before input.left_before words) found s ended out err is a r;
  complete = run_complete words input folder out err found s ended (answer_told folder.pages_before input.left_before words) is a due r;
  done = run_done words input folder out err found s ended is a due r;
  refused = run_refused words input folder out err found s ended is due r;
  write_fault = run_fault words input folder out err found s ended is a due r;
  kept = run_kept words input folder out err found s ended is i f r;
  read_fault = λ e. alone.input (found_read_fault found s ended out err is r e);
  folder_fault = λ e. alone.folder (found_folder_fault found s ended out err is r e);
}

pub run_asks_for : (told before after : Option (List (List ℕ))) (found : Result Output Refusal) (s : Status) (ended : ℕ) (out err : SinkUse)
    → ended ≡ code s → Reported found s out err → AreFirst before after → IfSome told (λ names. AsksNames names before after found)
    → AsksFor told ended before after
run_asks_for told before after found s ended out err is r grown named = record {
  first_names = run_asks told before after found grown named;
  all_names = run_all told before after found s ended out err is r named;
  fewer_names = run_fewer told before after found s ended out err is r named;
}

pub run_reads : (words : List (List ℕ)) (input : SourceUse) (folder : FolderUse) (out err : SinkUse)
    (found : Result Output Refusal) (s : Status) (ended : ℕ) → ended ≡ code s → Reported found s out err
    → IfErr found (IsDue words input folder) → GivesAtMost (HTML_BYTES + PIECE) input.left_before input.left_after
    → (Reads (command_of words) → IfErr found (StopsWithin input.left_before input.left_after))
    → ReadsAtMost (call words input folder out err) ended
run_reads words input folder out err found s ended is r due takes stops = record {
  takes = takes;
  stops = λ e. let f = found_read_fault found s ended out err is r e in
      read_fault_stops found input.left_before input.left_after (stops (due_reads words input folder found due f)) f;
}
