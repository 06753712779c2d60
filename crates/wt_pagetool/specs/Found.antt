-- What is found for the words of a call, before anything is written.
use Rattle.std.specs.Prelude.{◌≡◌, ◌+◌, ℕ, List, Some, IfSome, IfErr, OnOk, Result}
use Rattle.std.specs.Io.KnownBytes.{IsAtEnd}
use Rattle.wt_span.specs.declared.limits.TheConstants.{HTML_BYTES}
use Rattle.wt_commands.specs.declared.command.Command.TheVariants.{Edit, Selser}
use Rattle.wt_commands.specs.declared.output.Output.{Output}
use Rattle.wt_commands.specs.declared.refusal.Refusal.{Refusal}
use Rattle.wt_commands.specs.declared.wikitext_command.TheConstants.{PIECE}
use Rattle.wt_commands.specs.Answers.{answer_told}
use Rattle.wt_commands.specs.Calls.{IsDue}
use Rattle.wt_commands.specs.Causes.{Answered, FailsAlone, IsKept, found_status}
use Rattle.wt_commands.specs.Devices.{FolderUse, SourceUse}
use Rattle.wt_commands.specs.Inputs.{GivesAtMost, StopsWithin}
use Rattle.wt_pagetool.specs.Selser.{AnswersSelser}
use Rattle.wt_commands.specs.Words.{command_of, Reads}

-- What was found, where the contracts can name what the devices hold: the answer to the words; of `selser` a new page or a refusal as its
-- definition says. A refusal that was found is due.
pub record FindsAnswer (words : List (List ℕ)) (input : SourceUse) (folder : FolderUse) (found : Result Output Refusal) : Type 0 where
  pub answered : IfSome (answer_told folder.pages_before input.left_before words) (λ a. Answered a found)
  pub selser : (title : List ℕ) → command_of words ≡ Some (Selser title)
      → IfSome folder.pages_before (λ pages. IfSome input.left_before (λ bytes. AnswersSelser pages (pages title) bytes found))
  pub due : IfErr found (IsDue words input folder)

-- The counts of faults stay where a call is done or refused. In `edit` and `selser`, which read and fetch, the input or the folder alone
-- failed.
pub record CountsFaults (words : List (List ℕ)) (input : SourceUse) (folder : FolderUse) (found : Result Output Refusal) : Type 0 where
  pub input_kept : IsKept found input.faults_before input.faults_after
  pub folder_kept : IsKept found folder.faults_before folder.faults_after
  pub edit_alone : (title : List ℕ) → command_of words ≡ Some (Edit title)
      → FailsAlone (found_status found) input.faults_before input.faults_after folder.faults_before folder.faults_after
  pub selser_alone : (title : List ℕ) → command_of words ≡ Some (Selser title)
      → FailsAlone (found_status found) input.faults_before input.faults_after folder.faults_before folder.faults_after

-- How far the input was read: to its end where a command that reads is done; never more than the longest HTML and one piece; and where it
-- failed no more than the longest HTML before.
pub record ReadsInput (words : List (List ℕ)) (input : SourceUse) (found : Result Output Refusal) : Type 0 where
  pub ended : Reads (command_of words) → OnOk found (IsAtEnd input.left_after)
  pub takes : GivesAtMost (HTML_BYTES + PIECE) input.left_before input.left_after
  pub stops : Reads (command_of words) → IfErr found (StopsWithin input.left_before input.left_after)
