-- What expanding does, entry after entry, and what it costs.
use Rattle.std.specs.Prelude.{ℕ, ◌+◌, Bool, true, false, Option, Some, None, List, [], ◌∷◌, ◌++◌, length, nat_lt, if◌then◌else◌}
use Rattle.std.specs.Option.{option_map, option_or}
use Rattle.std.specs.Str.{bytes_eq}
use Rattle.wt_span.specs.declared.form.Mode.{Mode}
use Rattle.wt_span.specs.declared.form.Mode.TheVariants as mode
use Rattle.wt_span.specs.declared.limits.TheConstants.{PAGE_BYTES}
use Rattle.wt_span.specs.Lexemes.{words}
use Rattle.wt_span.specs.Braces.{calls}
use Rattle.wt_braces.specs.Found.{too_deep}
use Rattle.wt_utf8.specs.Places.{not_utf8_place}
use Rattle.wt_expand.specs.declared.limits.TheConstants.{MOST_COST}
use Rattle.wt_expand.specs.Templates.{template_text}

-- the pages of a folder, by their full names
abbrev pub Pages : Type 0
Pages = List ℕ → Option (List ℕ)

-- A text is entered, the page's own or a template's; a call or argument begins; a page is fetched by its full name; a call or
-- argument ends, having given so many bytes.
pub data Entry : Type 0 where
  entered : Option (List ℕ) → Entry
  begun : Entry
  fetched : List ℕ → Entry
  ended : ℕ → Entry

-- ---- refusals

pub data Refused : Type 0 where
  braces_too_deep : Option (List ℕ) → ℕ → Refused
  too_large : Refused
  not_utf8 : List ℕ → ℕ → Refused
  too_long : List ℕ → Refused

-- the most bytes of a template
unfoldable pub most_bytes : ℕ
most_bytes = PAGE_BYTES

-- the most that an expansion may cost
unfoldable pub most_cost : ℕ
most_cost = MOST_COST

-- the first byte of the leftmost call of a text that has a hundred others round it
unfoldable pub deep_place : Mode → List ℕ → Option ℕ
deep_place m bs = too_deep (calls 0 (words m bs))

-- a template's bytes: too many, else no UTF-8, else nested too deep in the text that is taken of them
unfoldable pub template_refusal : List ℕ → List ℕ → Option Refused
template_refusal title bytes =
    if nat_lt most_bytes (length bytes) then Some (too_long title)
    else
    option_or (option_map (not_utf8 title) (not_utf8_place bytes))
    (option_map (braces_too_deep (Some title)) (deep_place mode.Template (template_text bytes)))

abbrev pub found_refusal : List ℕ → Option (List ℕ) → Option Refused
found_refusal title None = None
found_refusal title (Some bytes) = template_refusal title bytes

-- of a text that is entered; the page itself is checked for nesting alone
abbrev pub text_refusal : Pages → List ℕ → Option (List ℕ) → Option Refused
text_refusal pages page None = option_map (braces_too_deep None) (deep_place mode.Page page)
text_refusal pages page (Some title) = found_refusal title (pages title)

-- ---- cost

-- a beginning costs 1, an end the bytes that were given
abbrev pub cost_of : Entry → ℕ
cost_of (entered title) = 0
cost_of begun = 1
cost_of (fetched title) = 0
cost_of (ended n) = n

abbrev pub if_large : ℕ → Option Refused
if_large cost = if nat_lt most_cost cost then Some too_large else None

-- what an entry refuses, where all up to and with it costs so much
abbrev pub entry_refusal : Pages → List ℕ → ℕ → Entry → Option Refused
entry_refusal pages page cost (entered title) = text_refusal pages page title
entry_refusal pages page cost begun = if_large cost
entry_refusal pages page cost (fetched title) = None
entry_refusal pages page cost (ended n) = if_large cost

-- the first refused entry decides; so much has been spent before
abbrev pub refusal_from : Pages → List ℕ → ℕ → List Entry → Option Refused
refusal_from pages page spent [] = None
refusal_from pages page spent (e ∷ es) = option_or (entry_refusal pages page (spent + cost_of e) e) (refusal_from pages page (spent + cost_of e) es)

unfoldable pub first_refusal : Pages → List ℕ → List Entry → Option Refused
first_refusal pages page es = refusal_from pages page 0 es

-- ---- names asked

abbrev pub fetched_by : Entry → List (List ℕ)
fetched_by (entered title) = []
fetched_by begun = []
fetched_by (fetched title) = title ∷ []
fetched_by (ended n) = []

-- the names of the pages that are fetched, as often as they are
abbrev pub fetches : List Entry → List (List ℕ)
fetches [] = []
fetches (e ∷ es) = fetched_by e ++ fetches es

abbrev pub is_among : List ℕ → List (List ℕ) → Bool
is_among name [] = false
is_among name (n ∷ ns) = if bytes_eq n name then true else is_among name ns

-- each name once, where it comes first; these were met before
abbrev pub firsts_after : List (List ℕ) → List (List ℕ) → List (List ℕ)
firsts_after met [] = []
firsts_after met (n ∷ ns) = if is_among n met then firsts_after met ns else n ∷ firsts_after (n ∷ met) ns

-- the names that the folder is asked for, each once, in the order of their first fetch
unfoldable pub names_asked : List Entry → List (List ℕ)
names_asked es = firsts_after [] (fetches es)
