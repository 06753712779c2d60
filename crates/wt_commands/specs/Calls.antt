-- A call of the program: its words, and what it did to its four devices.
use Rattle.std.specs.Prelude.{◌≡◌, ℕ, ⊤, List, Option, None, IfSome}
use Rattle.wt_commands.specs.declared.status.Status.{Status}
use Rattle.wt_commands.specs.declared.status.Status.TheVariants as status
use Rattle.wt_commands.specs.declared.refusal.Refusal.{Refusal}
use Rattle.wt_commands.specs.Words.{command_of, Fetches, HasPage, Reads}
use Rattle.wt_commands.specs.Devices.{SourceUse, FolderUse, SinkUse, SourceFailed, FolderFailed, SinkFailed}
use Rattle.wt_commands.specs.Refusals.{status_of}
use Rattle.wt_commands.specs.Answers.{Answer, refused, answer_told}

pub record Call : Type 0 where
  pub words : List (List ℕ)
  pub input : SourceUse
  pub folder : FolderUse
  pub out : SinkUse
  pub err : SinkUse

abbrev pub call : List (List ℕ) → SourceUse → FolderUse → SinkUse → SinkUse → Call
call words input folder out err = record { words = words; input = input; folder = folder; out = out; err = err }

-- the answer to its words, where what the devices hold can be named
abbrev pub known_answer : Call → Option Answer
known_answer c = answer_told c.folder.pages_before c.input.left_before c.words

-- ---- refusals that are due

-- where an answer is known, it is this refusal
abbrev pub IsKnownAnswer : List (List ℕ) → SourceUse → FolderUse → Refusal → Type 0
IsKnownAnswer words input folder r = IfSome (answer_told folder.pages_before input.left_before words) (λ a. a ≡ refused r)

-- When a refusal is due, by how it ends the call:
-- * usage: the words are none of a command;
-- * the page, the HTML or the edit is refused: the command has a page, reads HTML, or fetches and reads, and this refusal
--   is the answer to the words, where that is known;
-- * the input or the folder failed: the command reads or fetches, and the device's count rose;
-- * want of memory: in any call.
-- The fault of a sink is none of them: `OutFailed` and `ErrFailed` say it.
abbrev pub IsDueAs : Status → List (List ℕ) → SourceUse → FolderUse → Refusal → Type 0
IsDueAs status.Done words input folder r = ⊥
IsDueAs status.Usage words input folder r = command_of words ≡ None
IsDueAs status.PageRefused words input folder r = HasPage (command_of words) × IsKnownAnswer words input folder r
IsDueAs status.HtmlRefused words input folder r = Reads (command_of words) × IsKnownAnswer words input folder r
IsDueAs status.EditRefused words input folder r =
    Fetches (command_of words) × Reads (command_of words) × IsKnownAnswer words input folder r
IsDueAs status.ReadFault words input folder r = Reads (command_of words) × SourceFailed input
IsDueAs status.FolderFault words input folder r = Fetches (command_of words) × FolderFailed folder
IsDueAs status.WriteFault words input folder r = ⊥
IsDueAs status.NoMemory words input folder r = ⊤

abbrev pub IsDue : List (List ℕ) → SourceUse → FolderUse → Refusal → Type 0
IsDue words input folder r = IsDueAs (status_of r) words input folder r

-- ---- counts

-- no device's count of faults changed
pub record KeptCounts (c : Call) : Type 0 where
  pub input : c.input.faults_after ≡ c.input.faults_before
  pub folder : c.folder.faults_after ≡ c.folder.faults_before
  pub out : c.out.faults_after ≡ c.out.faults_before
  pub err : c.err.faults_after ≡ c.err.faults_before

-- no device failed: no count rose, or was at its last value
pub record NothingFailed (c : Call) : Type 0 where
  pub input : SourceFailed c.input → ⊥
  pub folder : FolderFailed c.folder → ⊥
  pub out : SinkFailed c.out → ⊥
  pub err : SinkFailed c.err → ⊥
