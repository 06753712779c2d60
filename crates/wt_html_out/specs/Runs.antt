-- Bytes that are written as they are.
use Rattle.std.specs.Prelude.{ℕ, Bool, ◌==◌, ◌&&◌, not}
use Rattle.wt_span.specs.Characters as byte
use Rattle.wt_schema.specs.Escapes.{is_control}

-- a byte that needs no escape in a text, and isn't this quote
abbrev pub is_plain : ℕ → ℕ → Bool
is_plain quote b = not (b == byte.ampersand) && (not (b == byte.less_than) && (not (b == byte.greater_than) && (not (is_control b) && not (b == quote))))
