-- What each toggle does to bold and to italic, by the numbers of toggles before it.
use Rattle.std.specs.Prelude.{ℕ, zero, suc, ◌+◌, ◌%◌, ◌==◌, ◌&&◌, ◌||◌, Bool, true, false, not, Option, Some, None, List, length, take, drop, map, if◌then◌else◌, nat_lt, count_by, slice_get, is_some}
use Rattle.std.specs.List.{range_with_len, position_or_len}
use Rattle.std.specs.Option.{option_map_or}
use Rattle.wt_quotes.specs.declared.chunk.Chunk.{Chunk}
use Rattle.wt_quotes.specs.declared.toggle.Toggle.{Toggle}
use Rattle.wt_quotes.specs.declared.turn.Effect.{Effect}
use Rattle.wt_quotes.specs.declared.turn.Effect.TheVariants.{Nothing, Opens, Closes, Breaks}
use Rattle.wt_quotes.specs.declared.turn.Opened.{Opened}
use Rattle.wt_quotes.specs.declared.turn.PlacedToggle.{PlacedToggle}
use Rattle.wt_quotes.specs.Runs.{place_of}

-- whether a toggle is of a style: bold, or else italic
abbrev pub is_of : Bool → Toggle → Bool
is_of true t = t.bold
is_of false t = t.italic

abbrev pub toggles_at : Bool → List Toggle → ℕ → Bool
toggles_at bold ts i = option_map_or (is_of bold) (slice_get ts i) false

-- an odd number of toggles of the style lies before the place
abbrev pub is_open : Bool → List Toggle → ℕ → Bool
is_open bold ts i = count_by (is_of bold) (take i ts) % 2 == 1

-- the last toggle of the style before a place
abbrev pub last_before : Bool → List Toggle → ℕ → ℕ
last_before bold ts zero = 0
last_before bold ts (suc i) = if toggles_at bold ts i then i else last_before bold ts i

-- the toggle that opened the style that is open at a place
unfoldable pub since : Bool → List Toggle → ℕ → Option ℕ
since bold ts i = if is_open bold ts i then Some (last_before bold ts i) else None

-- the first toggle of the style from a place on, or the end of the context
unfoldable pub next : Bool → List Toggle → ℕ → ℕ
next bold ts i = i + position_or_len (is_of bold) (drop i ts)

-- of two styles that one toggle opened, bold ends later than italic, or both end by the end of the context
unfoldable pub bold_ends_later : List Toggle → ℕ → Bool
bold_ends_later ts i =
    nat_lt (next false ts (i + 1)) (next true ts (i + 1))
    || ((next false ts (i + 1) == next true ts (i + 1)) && not (nat_lt (next true ts (i + 1)) (length ts)))

-- of bold, opened at a, and italic, opened at b, the one that was opened later is inside; where one toggle
-- opened both, bold is outside if it ends later
abbrev pub is_bold_outside : List Toggle → ℕ → ℕ → Bool
is_bold_outside ts a b = nat_lt a b || ((a == b) && bold_ends_later ts a)

abbrev pub opened_of : Bool → Opened → Option ℕ
opened_of true o = o.bold
opened_of false o = o.italic

abbrev pub is_outside_of : Bool → List Toggle → Option ℕ → Option ℕ → Bool
is_outside_of bold ts None b = false
is_outside_of bold ts (Some a) None = false
is_outside_of true ts (Some a) (Some b) = is_bold_outside ts a b
is_outside_of false ts (Some a) (Some b) = not (is_bold_outside ts a b)

-- both styles are open, and this one is outside the other
abbrev pub is_outside : Bool → List Toggle → Opened → Bool
is_outside bold ts o = is_outside_of bold ts o.bold o.italic

-- what a toggle does to a style: it opens it or closes it; a style that lies inside the one that closes is
-- broken: it closes and opens again
unfoldable pub effect_on : Bool → List Toggle → ℕ → Opened → Effect
effect_on bold ts i o =
    if toggles_at bold ts i then (if is_some (opened_of bold o) then Closes else Opens)
    else (if toggles_at (not bold) ts i && is_outside (not bold) ts o then Breaks else Nothing)

-- of the two styles that it opens, or that are open before it, bold is outside
unfoldable pub is_bold_outside_at : List Toggle → ℕ → Opened → Bool
is_bold_outside_at ts i o = if is_some o.bold || is_some o.italic then is_outside true ts o else bold_ends_later ts i

-- the toggles that opened what is open at a place
abbrev pub opened_before : List Toggle → ℕ → Opened
opened_before ts i = record { bold = since true ts i; italic = since false ts i }

-- the place of a toggle's first byte after its plain apostrophes
abbrev pub start_of : List Chunk → Toggle → ℕ
start_of chunks t = place_of chunks t.chunk + t.plain

abbrev pub turn_of : ℕ → List Toggle → ℕ → Opened → PlacedToggle
turn_of start ts i o = record { start = start; bold = effect_on true ts i o; italic = effect_on false ts i o; bold_outside = is_bold_outside_at ts i o }

-- what the toggle at a place does
unfoldable pub turn_at : List Chunk → List Toggle → ℕ → PlacedToggle
turn_at chunks ts i = turn_of (option_map_or (start_of chunks) (slice_get ts i) 0) ts i (opened_before ts i)

-- what the toggles of a context do
abbrev pub turns_of : List Chunk → List Toggle → List PlacedToggle
turns_of chunks ts = map (turn_at chunks ts) (range_with_len 0 (length ts))

-- what a toggle makes of the place where its style was opened
abbrev pub flipped : Bool → ℕ → Option ℕ → Option ℕ
flipped false i o = o
flipped true i None = Some i
flipped true i (Some a) = None
