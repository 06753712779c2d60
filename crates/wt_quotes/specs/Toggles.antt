-- The toggles of a context: its runs of apostrophes by their length, and the one exchange.
use Rattle.std.specs.Prelude.{ℕ, ◌≡◌, ◌+◌, ◌-◌, ◌%◌, ◌<◌, ◌==◌, ◌&&◌, ◌||◌, Bool, true, false, not, Option, Some, None, List, if◌then◌else◌, nat_lt, count_by, slice_get, slice_set, length, position}
use Rattle.std.specs.List.{filter_map, range_with_len}
use Rattle.std.specs.Option.{option_or}
use Rattle.wt_span.specs.Characters as byte
use Rattle.wt_quotes.specs.declared.chunk.Chunk.{Chunk}
use Rattle.wt_quotes.specs.declared.toggle.Toggle.{Toggle}
use Rattle.wt_quotes.specs.declared.toggle.Preceding.{Preceding}
use Rattle.wt_quotes.specs.declared.toggle.Preceding.TheVariants.{OneLetter, Middle, Space}
use Rattle.wt_quotes.specs.Runs.{run_length, last_of, before_of, chunk_before}

-- the toggle of a run by its length: two switches italic, three bold, five both; four is one character
-- (the first) and a run of three, more than five are characters and a run of five; k is the run's place among the chunks
abbrev pub toggle_of : ℕ → ℕ → Option Toggle
toggle_of k n =
    if nat_lt n 2 then None
    else (if n == 2 then Some (record { chunk = k; plain = 0; italic = true; bold = false })
    else (if n == 3 then Some (record { chunk = k; plain = 0; italic = false; bold = true })
    else (if n == 4 then Some (record { chunk = k; plain = 1; italic = false; bold = true })
    else Some (record { chunk = k; plain = n - 5; italic = true; bold = true }))))

-- the toggle of what is at a place
unfoldable pub toggle_at : List Chunk → ℕ → Option Toggle
toggle_at chunks k = toggle_of k (run_length (slice_get chunks k))

-- the toggles by the lengths of the runs alone
abbrev pub toggles_by_length : List Chunk → List Toggle
toggles_by_length chunks = filter_map (toggle_at chunks) (range_with_len 0 (length chunks))

abbrev pub is_space : Option ℕ → Bool
is_space None = false
is_space (Some c) = c == byte.space

abbrev pub is_ascii_no_space : Option ℕ → Bool
is_ascii_no_space None = false
is_ascii_no_space (Some c) = nat_lt c 128 && not (c == byte.space)

-- the class of a run by the last item before it, and the item before that
abbrev pub class_by : Option ℕ → Option ℕ → Preceding
class_by z y = if is_space z then Space else (if is_ascii_no_space z && is_space y then OneLetter else Middle)

-- the class of a run after a chunk: the apostrophe of a run of four is the last item before its run of three
abbrev pub class_of : ℕ → Option Chunk → Preceding
class_of n before = if n == 4 then class_by (Some byte.apostrophe) (last_of before) else class_by (last_of before) (before_of before)

abbrev pub class_at : List Chunk → ℕ → Preceding
class_at chunks k = class_of (run_length (slice_get chunks k)) (chunk_before chunks k)

-- an odd number of toggles pass the test
abbrev pub is_odd : (Toggle → Bool) → List Toggle → Bool
is_odd p ts = count_by p ts % 2 == 1

abbrev pub is_same_class : Preceding → Preceding → Bool
is_same_class OneLetter OneLetter = true
is_same_class Middle Middle = true
is_same_class Space Space = true
is_same_class OneLetter Middle = false
is_same_class OneLetter Space = false
is_same_class Middle OneLetter = false
is_same_class Middle Space = false
is_same_class Space OneLetter = false
is_same_class Space Middle = false

-- the toggle is of a run of three, so it switches bold alone
abbrev pub is_bold_alone : Toggle → Bool
is_bold_alone t = t.bold && not t.italic

-- a run of three of a class
abbrev pub is_three : List Chunk → Preceding → Toggle → Bool
is_three chunks class t = is_bold_alone t && is_same_class (class_at chunks t.chunk) class

-- the place among the toggles of the first run of three of a class
abbrev pub first_of : List Chunk → Preceding → List Toggle → Option ℕ
first_of chunks class ts = position (is_three chunks class) ts

-- the place of the run that is exchanged: the first after one letter, else the first of the middle class,
-- else the first after a space
abbrev pub exchange_place : List Chunk → List Toggle → Option ℕ
exchange_place chunks ts = option_or (first_of chunks OneLetter ts) (option_or (first_of chunks Middle ts) (first_of chunks Space ts))

-- a run of three becomes one character and a run of two
abbrev pub exchanged : Toggle → Toggle
exchanged t = record { chunk = t.chunk; plain = t.plain + 1; italic = true; bold = false }

abbrev pub set_exchanged : List Toggle → ℕ → Option Toggle → List Toggle
set_exchanged ts i None = ts
set_exchanged ts i (Some t) = slice_set ts i (exchanged t)

abbrev pub exchange_at : Option ℕ → List Toggle → List Toggle
exchange_at None ts = ts
exchange_at (Some i) ts = set_exchanged ts i (slice_get ts i)

-- the exchange is taken where the numbers of bold and of italic toggles are both odd
abbrev pub is_due : List Toggle → Bool
is_due ts = is_odd (λ t. t.bold) ts && is_odd (λ t. t.italic) ts

-- the toggles of a context
unfoldable pub toggles_of : List Chunk → List Toggle
toggles_of chunks =
    let ts = toggles_by_length chunks in
    if is_due ts then exchange_at (exchange_place chunks ts) ts else ts

-- how many apostrophes a toggle's delimiters have
abbrev pub width_of : Toggle → ℕ
width_of t = (if t.italic then 2 else 0) + (if t.bold then 3 else 0)

-- a toggle with its plain apostrophes is the run at its place among the chunks
abbrev pub IsOfRun : List Chunk → Toggle → Type 0
IsOfRun chunks t = (t.chunk < length chunks) × (t.plain + width_of t ≡ run_length (slice_get chunks t.chunk))

-- a toggle switches a style
abbrev pub Switches : Toggle → Type 0
Switches t = (t.bold || t.italic) ≡ true
