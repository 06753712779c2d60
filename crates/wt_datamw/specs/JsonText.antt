-- Strings of JSON.
use Rattle.std.specs.Prelude.{ℕ, Bool, ◌==◌, ◌&&◌, not, nat_le}
use Rattle.wt_span.specs.Characters as byte

-- a byte that is written in a string as it is
abbrev pub stands_for_itself : ℕ → Bool
stands_for_itself b = nat_le 32 b && (not (b == byte.quotation_mark) && not (b == byte.backslash))
