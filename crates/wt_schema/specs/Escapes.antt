-- Escapes: how the characters of texts and attribute values are written.
use Rattle.std.specs.Prelude.{ℕ, List, [], ◌∷◌, ◌++◌, Bool, ◌==◌, ◌&&◌, not, nat_lt, codes, decimal, if◌then◌else◌}
use Rattle.std.specs.List.{flat_map}
use Rattle.wt_span.specs.Characters as byte

-- a control character, which is written by its number: below the space, but for tab and line break
abbrev pub is_control : ℕ → Bool
is_control b = nat_lt b 32 && not (b == byte.tab) && not (b == byte.line_break)

-- a byte of a text
unfoldable pub escape : ℕ → List ℕ
escape b =
    if b == byte.ampersand then codes "&amp;"
    else (if b == byte.less_than then codes "&lt;"
    else (if b == byte.greater_than then codes "&gt;"
    else (if is_control b then codes "&#" ++ (decimal b ++ codes ";")
    else b ∷ [])))

-- a byte of a value that is in `"`
unfoldable pub escape_double : ℕ → List ℕ
escape_double b = if b == byte.quotation_mark then codes "&quot;" else escape b

-- a byte of a value that is in `'`
unfoldable pub escape_single : ℕ → List ℕ
escape_single b = if b == byte.apostrophe then codes "&#39;" else escape b

abbrev pub escaped : List ℕ → List ℕ
escaped bs = flat_map escape bs

abbrev pub escaped_double : List ℕ → List ℕ
escaped_double bs = flat_map escape_double bs

abbrev pub escaped_single : List ℕ → List ℕ
escaped_single bs = flat_map escape_single bs
