-- Small words on the bytes of a text.
use Rattle.std.specs.Prelude.{ℕ, ◌+◌, ◌==◌, ◌||◌, Bool, List, [], ◌∷◌, length, slice_index, map, nat_eq, if◌then◌else◌}
use Rattle.std.specs.Char.{is_ascii_alphabetic, is_ascii_alphanumeric, to_ascii_lowercase}
use Rattle.std.specs.List.{starts_with, prefix_len}
use Rattle.wt_span.specs.Characters as byte

abbrev pub is_break : ℕ → Bool
is_break b = b == byte.line_break

-- a space or a tab
abbrev pub is_blank : ℕ → Bool
is_blank b = b == byte.space || b == byte.tab

-- a space, a tab or a line break
abbrev pub is_white : ℕ → Bool
is_white b = is_blank b || is_break b

abbrev pub begins : List ℕ → List ℕ → Bool
begins word bs = starts_with nat_eq bs word

-- how many bytes up to and with the first place of a word; all where there is none
abbrev pub through : List ℕ → List ℕ → ℕ
through word [] = 0
through word (b ∷ bs) = if begins word (b ∷ bs) then length word else 1 + through word bs

-- how many blanks begin a text
abbrev pub blank_len : List ℕ → ℕ
blank_len bs = prefix_len is_blank bs

-- a name: a letter, then letters and digits; 0 where none begins the text
abbrev pub name_len : List ℕ → ℕ
name_len bs = if is_ascii_alphabetic (slice_index bs 0) then prefix_len is_ascii_alphanumeric bs else 0

-- names are compared without ASCII case: this is the one in lower case
abbrev pub lower : List ℕ → List ℕ
lower name = map to_ascii_lowercase name
