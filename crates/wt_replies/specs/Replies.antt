-- What a call of the library comes to.
use Rattle.std.specs.Prelude.{◌≡◌, ◌⊎◌, ℕ, List}
use Rattle.wt_commands.specs.Statuses.{code}
use Rattle.wt_commands.specs.declared.status.Status.TheVariants.{NoMemory}
use Rattle.wt_rooms.specs.Rooms.{Told, told_by, Room, IsLeftAlone, IsHandedBack}
use Rattle.wt_replies.specs.declared.table.Page.{Page}
use Rattle.wt_replies.specs.declared.words.Word.{Word}
use Rattle.wt_replies.specs.Runs.{Answers}
use Rattle.wt_replies.specs.Tables.{Entries, entry_of, pages_of, missing_names}
use Rattle.wt_replies.specs.Words.{words_of}

-- what the caller gets of a call with these words over this input and the entries of a table
pub record IsToldOver (words : List (List ℕ)) (input : List ℕ) (entries : Entries) (told : Told) : Type 0 where
  pub ended : ℕ
  pub out : List ℕ
  pub line : List ℕ
  pub names : List (List ℕ)
  pub answers : Answers words input (pages_of entries) ended out line names
  pub is : told ≡ told_by ended out line (missing_names entries names)

-- the same as the caller gives words and table
abbrev pub IsTold : List Word → List ℕ → List Page → Told → Type 0
IsTold words input table told = IsToldOver (words_of words) input (entry_of table) told

-- What a call with these words over this input and this table comes to: what is told of it is handed back; or memory ran out, and nothing
-- is given.
abbrev pub IsAnswered : List Word → List ℕ → List Page → Room → Room → Room → ℕ → Type 0
IsAnswered words input table out line missing status =
    ((told : Told) × IsTold words input table told × IsHandedBack told out line missing status)
    ⊎ ((status ≡ code NoMemory) × IsLeftAlone out × IsLeftAlone line × IsLeftAlone missing)
