-- Entities: forty by name, and others by number. Each is a character and how many bytes it takes.
use Rattle.std.specs.Prelude.{ℕ, ◌+◌, ◌==◌, ◌&&◌, ◌||◌, not, Bool, Option, Some, None, List, [], ◌∷◌, length, take, drop, slice_index, nat_lt, nat_le, codes, if◌then◌else◌}
use Rattle.std.specs.Option.{option_or}
use Rattle.std.specs.List.{prefix_len}
use Rattle.std.specs.Char.{is_ascii_digit, is_ascii_hexdigit}
use Rattle.std.specs.Str.Parse.{digits_value}
use Rattle.wt_span.specs.Bytes.{begins}
use Rattle.wt_span.specs.Characters as byte

-- the first entry of a table that begins a text
abbrev pub named_in : List (List ℕ × ℕ) → List ℕ → Option (ℕ × ℕ)
named_in [] bs = None
named_in ((name, c) ∷ entries) bs = if begins name bs then Some (c, length name) else named_in entries bs

-- the names, each with its character
unfoldable pub entity_names : List (List ℕ × ℕ)
entity_names =
    (codes "&amp;", 38) ∷ (codes "&lt;", 60) ∷ (codes "&gt;", 62) ∷ (codes "&quot;", 34) ∷ (codes "&nbsp;", 160)
    ∷ (codes "&iexcl;", 161) ∷ (codes "&cent;", 162) ∷ (codes "&pound;", 163) ∷ (codes "&yen;", 165) ∷ (codes "&sect;", 167)
    ∷ (codes "&copy;", 169) ∷ (codes "&laquo;", 171) ∷ (codes "&not;", 172) ∷ (codes "&shy;", 173) ∷ (codes "&reg;", 174)
    ∷ (codes "&deg;", 176) ∷ (codes "&plusmn;", 177) ∷ (codes "&sup2;", 178) ∷ (codes "&sup3;", 179) ∷ (codes "&acute;", 180)
    ∷ (codes "&micro;", 181) ∷ (codes "&para;", 182) ∷ (codes "&middot;", 183) ∷ (codes "&raquo;", 187) ∷ (codes "&frac14;", 188)
    ∷ (codes "&frac12;", 189) ∷ (codes "&times;", 215) ∷ (codes "&divide;", 247) ∷ (codes "&ndash;", 8211) ∷ (codes "&mdash;", 8212)
    ∷ (codes "&lsquo;", 8216) ∷ (codes "&rsquo;", 8217) ∷ (codes "&ldquo;", 8220) ∷ (codes "&rdquo;", 8221) ∷ (codes "&bull;", 8226)
    ∷ (codes "&hellip;", 8230) ∷ (codes "&euro;", 8364) ∷ (codes "&trade;", 8482) ∷ (codes "&rarr;", 8594) ∷ (codes "&minus;", 8722) ∷ []

unfoldable pub named_entity : List ℕ → Option (ℕ × ℕ)
named_entity bs = named_in entity_names bs

-- the numbers that count: no control character, no half of a pair, nothing past the last character
abbrev pub is_entity_number : ℕ → Bool
is_entity_number n = (nat_le 32 n && nat_le n 126) || (nat_le 160 n && (nat_le n 1114111 && not (nat_le 55296 n && nat_le n 57343)))

-- the first `start` bytes, then one to `most` digits of a base, then `;`
abbrev pub numbered : ℕ → ℕ → ℕ → (ℕ → Bool) → List ℕ → Option (ℕ × ℕ)
numbered start most base is_digit bs =
    let n = prefix_len is_digit (drop start bs) in
    let c = digits_value base (take n (drop start bs)) in
    if nat_lt 0 n && (nat_le n most && (slice_index bs (start + n) == byte.semicolon && is_entity_number c)) then Some (c, start + n + 1) else None

unfoldable pub decimal_entity : List ℕ → Option (ℕ × ℕ)
decimal_entity bs = if begins (codes "&#") bs then numbered 2 7 10 is_ascii_digit bs else None

unfoldable pub hex_entity : List ℕ → Option (ℕ × ℕ)
hex_entity bs = if begins (codes "&#x") bs || begins (codes "&#X") bs then numbered 3 6 16 is_ascii_hexdigit bs else None

-- an entity: the character that it stands for, and how many bytes it takes
unfoldable pub entity_at : List ℕ → Option (ℕ × ℕ)
entity_at bs = option_or (named_entity bs) (option_or (decimal_entity bs) (hex_entity bs))
