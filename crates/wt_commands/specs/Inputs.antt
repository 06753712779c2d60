-- What was read of an input: all of it was fed to the reader of HTML.
use Rattle.std.specs.Prelude.{◌≡◌, ◌≤◌, ℕ, List, length, Option, IfSome, ⊤}
use Rattle.std.specs.Io.KnownBytes.{Consumes, IsAtEnd}
use Rattle.wt_html_in.specs.declared.reader.Reader.{Reader}
use Rattle.wt_html_in.specs.Feeding.{IsFed}
use Rattle.wt_span.specs.declared.limits.TheConstants.{HTML_BYTES}
use Rattle.wt_commands.specs.declared.refusal.Refusal.{Refusal}
use Rattle.wt_commands.specs.declared.status.Status.{Status}
use Rattle.wt_commands.specs.declared.status.Status.TheVariants as status
use Rattle.wt_commands.specs.Refusals.{status_of}

-- an input gave at most so many bytes
abbrev pub GivesAtMost : ℕ → Option (List ℕ) → Option (List ℕ) → Type 0
GivesAtMost most old new = (bytes : List ℕ) × Consumes old new bytes × (length bytes ≤ most)

-- An input that failed had given no more than the longest HTML before, and the fault is where the reading stopped: one that gave more
-- is refused as too long, and not read on.
abbrev pub StopsAs : Status → Option (List ℕ) → Option (List ℕ) → Type 0
StopsAs status.Done old new = ⊤
StopsAs status.Usage old new = ⊤
StopsAs status.PageRefused old new = ⊤
StopsAs status.HtmlRefused old new = ⊤
StopsAs status.EditRefused old new = ⊤
StopsAs status.ReadFault old new = GivesAtMost HTML_BYTES old new
StopsAs status.FolderFault old new = ⊤
StopsAs status.WriteFault old new = ⊤
StopsAs status.NoMemory old new = ⊤

abbrev pub StopsWithin : Option (List ℕ) → Option (List ℕ) → Refusal → Type 0
StopsWithin old new r = StopsAs (status_of r) old new

-- the input gave these many bytes, which were fed
pub record FedSoFar (reader : Reader) (old new : Option (List ℕ)) (taken : ℕ) : Type 0 where
  pub bytes : List ℕ
  pub fed : IsFed reader bytes
  pub count : length bytes ≡ taken
  pub given : Consumes old new bytes

-- the input is at its end, and all that it had was fed
pub record FedWhole (reader : Reader) (old new : Option (List ℕ)) : Type 0 where
  pub bytes : List ℕ
  pub fed : IsFed reader bytes
  pub within : length bytes ≤ HTML_BYTES
  pub whole : IfSome old (λ all. all ≡ bytes)
  pub ended : IsAtEnd new
