-- Where bytes stop being UTF-8.
use Rattle.std.specs.Prelude.{ℕ, ◌+◌, ◌<◌, ◌≤◌, Option, Some, None, List, ◌++◌, length, take, drop, if◌then◌else◌}
use Rattle.std.specs.Str.{IsUtf8, is_utf8}
use Rattle.std.specs.Str.Lossy.{utf8_valid_len}
use Rattle.wt_utf8.specs.Begun.{begun_len}

-- some text of UTF-8 begins with these bytes
abbrev pub BeginsText : List ℕ → Type 0
BeginsText bytes = (more : List ℕ) × IsUtf8 (bytes ++ more)

-- The bytes aren't UTF-8, and their longest prefix that begins a text has this length: the byte after it continues no
-- UTF-8, or the bytes end inside a character.
pub record IsPlace (bytes : List ℕ) (place : ℕ) : Type 0 where
  pub ill : IsUtf8 bytes → ⊥
  pub within : place ≤ length bytes
  pub front : BeginsText (take place bytes)
  pub longest : (k : ℕ) → place < k → k ≤ length bytes → BeginsText (take k bytes) → ⊥

-- That place, where there is one: after the longest prefix that is UTF-8, and as much of one more character as follows it.
unfoldable pub not_utf8_place : List ℕ → Option ℕ
not_utf8_place bytes = if is_utf8 bytes then None else Some (utf8_valid_len bytes + begun_len (drop (utf8_valid_len bytes) bytes))
