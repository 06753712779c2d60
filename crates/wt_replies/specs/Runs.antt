-- What `run` of `wt_pagetool` promises, as one record about what a call did to its devices; and the devices of the library.
use Rattle.std.specs.Prelude.{◌≡◌, ℕ, List, [], Option, Some}
use Rattle.wt_devices.specs.Device.{Pages}
use Rattle.wt_commands.specs.Asked.{names_told}
use Rattle.wt_commands.specs.Calls.{Call, call}
use Rattle.wt_commands.specs.Devices.{SourceUse, FolderUse, SinkUse}
use Rattle.wt_pagetool.specs.Promises.{AsksFor, Ends, EndsAsEdit, GivesBack, ReadsAtMost, Waits, Wrote}
use Rattle.wt_commands.specs.Words.{command_of, Fetches, Reads}

-- ---- the clauses of `run`, under its names, for a call that ended with this status; the folder had answered the first names
-- before it and the second ones after it
pub record Ran (c : Call) (ended : ℕ) (before after : Option (List (List ℕ))) : Type 0 where
  pub wrote : Wrote c ended
  pub gives_back : GivesBack c ended
  pub ends_as_edit : EndsAsEdit c ended
  pub ends : Ends c ended
  pub asks_for : AsksFor (names_told c.folder.pages_before c.input.left_before c.words) ended before after
  pub reads : ReadsAtMost c ended
  pub waits : Waits (command_of c.words) c.folder.pages_before c.input.left_before c.input.left_after
  pub unread : (Reads (command_of c.words) → ⊥) → c.input.left_after ≡ c.input.left_before
  pub unasked : (Fetches (command_of c.words) → ⊥) → after ≡ before

-- ---- the devices of the library

-- a buffer of which this is left; it never fails
abbrev pub from_buffer : List ℕ → List ℕ → SourceUse
from_buffer input left = record { left_before = Some input; left_after = Some left; faults_before = 0; faults_after = 0 }

-- a table of pages, which so many times gave no page that it has
abbrev pub from_table : Pages → ℕ → FolderUse
from_table pages faults = record { pages_before = Some pages; faults_before = 0; faults_after = faults }

-- a sink that took these bytes, and so many times found no memory for them
abbrev pub to_memory : List ℕ → ℕ → SinkUse
to_memory bytes faults = record { taken_before = Some []; taken_after = Some bytes; faults_before = 0; faults_after = faults }

-- A call of `run` with these words over an input and pages: how it ended, what it wrote to its two sinks, and the names that it
-- asked for.
pub record Answers (words : List (List ℕ)) (input : List ℕ) (pages : Pages) (ended : ℕ) (out line : List ℕ) (names : List (List ℕ)) : Type 0 where
  pub left : List ℕ
  pub failed_fetches : ℕ
  pub out_faults : ℕ
  pub line_faults : ℕ
  pub ran : Ran (call words (from_buffer input left) (from_table pages failed_fetches) (to_memory out out_faults) (to_memory line line_faults))
      ended (Some []) (Some names)
