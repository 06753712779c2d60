-- What a good title is: a list of conditions, each with a name. A text that breaks one of them is no title.
use Rattle.std.specs.Prelude.{ℕ, List, [], ◌∷◌, Bool, false, not, ◌&&◌, ◌||◌, ◌==◌, nat_lt, nat_le, nat_eq, Option, Some, None, if◌then◌else◌, length, slice_index, codes}
use Rattle.std.specs.List.{list_any, starts_with, ends_with}
use Rattle.std.specs.Char.{is_ascii_hexdigit}
use Rattle.std.specs.Str.{bytes_eq}
use Rattle.wt_span.specs.Characters as byte
use Rattle.wt_names.specs.declared.title.Title.{Title}
use Rattle.wt_names.specs.declared.good.TheConstants.{FULL_NAME_BYTES}
use Rattle.wt_names.specs.Namespace.{full_name_of}
use Rattle.wt_names.specs.Reading.{title_in}

-- a control character, or one of `< > [ ] { } |`
unfoldable pub is_forbidden : ℕ → Bool
is_forbidden b = nat_lt b 32 || b == 127 || list_any (λ c. c == b) (codes "<>[]{}|")

-- none of these is anywhere in the text
unfoldable pub is_allowed : List ℕ → Bool
is_allowed text = not (list_any is_forbidden text)

-- some rest of the text passes the test
abbrev pub anywhere : (List ℕ → Bool) → List ℕ → Bool
anywhere test [] = test []
anywhere test (b ∷ bs) = test (b ∷ bs) || anywhere test bs

-- the word is at the start of the text
abbrev pub begins : List ℕ → List ℕ → Bool
begins word text = starts_with nat_eq text word

-- somewhere in it
abbrev pub holds : List ℕ → List ℕ → Bool
holds word text = anywhere (begins word) text

-- at its end
abbrev pub ends : List ℕ → List ℕ → Bool
ends word text = ends_with nat_eq text word

-- `%` and two hexadecimal digits
abbrev pub begins_with_escape : List ℕ → Bool
begins_with_escape (percent ∷ high ∷ low ∷ rest) = percent == byte.percent && (is_ascii_hexdigit high && is_ascii_hexdigit low)
begins_with_escape _ = false

abbrev pub has_escape : List ℕ → Bool
has_escape name = anywhere begins_with_escape name

-- three tildes, which would be a signature
unfoldable pub has_signature : List ℕ → Bool
has_signature name = holds (codes "~~~") name

-- a step to this folder or the one above it: alone
unfoldable pub is_step : List ℕ → Bool
is_step full = bytes_eq full (codes ".") || bytes_eq full (codes "..")

-- at the start
unfoldable pub begins_with_step : List ℕ → Bool
begins_with_step full = begins (codes "./") full || begins (codes "../") full

-- inside
unfoldable pub holds_step : List ℕ → Bool
holds_step full = holds (codes "/./") full || holds (codes "/../") full

-- at the end
unfoldable pub ends_with_step : List ℕ → Bool
ends_with_step full = ends (codes "/.") full || ends (codes "/..") full

-- in one of these forms
abbrev pub is_relative : List ℕ → Bool
is_relative full = is_step full || begins_with_step full || holds_step full || ends_with_step full

-- a text that isn't empty
abbrev pub is_some_text : Option (List ℕ) → Bool
is_some_text None = false
is_some_text (Some text) = nat_lt 0 (length text)

-- it has a name, or it is nothing but a fragment that isn't empty
abbrev pub is_named : Title → Bool
is_named t = nat_lt 0 (length t.name) || (length (full_name_of t) == 0 && is_some_text t.fragment)

-- at most `FULL_NAME_BYTES` bytes of full name
abbrev pub is_short : Title → Bool
is_short t = nat_le (length (full_name_of t)) FULL_NAME_BYTES

-- the name doesn't begin with a colon
abbrev pub has_no_colon_first : Title → Bool
has_no_colon_first t = not (slice_index t.name 0 == byte.colon)

-- the conditions on what was read
unfoldable pub is_good : Title → Bool
is_good t = is_named t && is_short t && has_no_colon_first t && not (has_escape t.name) && not (has_signature t.name) && not (is_relative (full_name_of t))

-- the title that a text is, where it is one
unfoldable pub read_text : List ℕ → Option Title
read_text text = if is_allowed text && is_good (title_in text) then Some (title_in text) else None
