-- What was read: how far, and what is held of it.
use Rattle.std.specs.Prelude.{◌≡◌, ℕ, ◌+◌, ◌≤◌, true, Result, Ok, Err, List, [], ◌∷◌, ◌++◌, length, take, if◌then◌else◌}
use Rattle.wt_html_grammar.specs.Machine.{State, start, run}
use Rattle.wt_html_grammar.specs.Places.{taken}
use Rattle.wt_html_grammar.specs.Events.{Building, built}
use Rattle.wt_html_reasons.specs.declared.refusal.Fault.{Fault}
use Rattle.wt_html_reasons.specs.declared.refusal.Fault.TheVariants as faults
use Rattle.wt_html_elements.specs.declared.reading.Reading.{Reading}
use Rattle.wt_html_elements.specs.Kept.{IsKept, is_between}
use Rattle.wt_html_elements.specs.Held.{tag_len, needed, spent, fits}
use Rattle.wt_html_elements.specs.View.{view}
use Rattle.wt_html_elements.specs.Built.{building}

abbrev pub parts_of : Reading → Building
parts_of g = building g.builder

abbrev pub state_of : Reading → State
state_of g = view g.machine (parts_of g)

-- how many bytes of the start tag it holds
abbrev pub tag_held : Reading → ℕ
tag_held g = tag_len (parts_of g)

-- These bytes were read, and so many of them are held undecoded. Of what they built it holds what is still
-- needed, and of a start tag no more than these.
abbrev pub Reads : Reading → List ℕ → ℕ → Type 0
Reads g bytes count =
    (run start bytes ≡ Ok (state_of g)) × (parts_of g ≡ needed (state_of g) (built bytes)) × (fits (state_of g) (parts_of g) ≡ true)
    × (tag_held g + spent (state_of g) ≤ count) × IsKept bytes count

-- so many are held once so many more were taken
abbrev pub held_behind : State → ℕ → ℕ
held_behind s k = if is_between s then 0 else k

-- a byte was taken after these bytes, or why it wasn't
abbrev pub TookByte : Result Unit Fault → Reading → List ℕ → ℕ → ℕ → Type 0
TookByte (Ok u) g bytes b count = Reads g (bytes ++ b ∷ []) (held_behind (state_of g) (count + 1))
TookByte (Err (faults.Html w)) g bytes b count = (run start (bytes ++ b ∷ []) ≡ Err w) × (taken start (bytes ++ b ∷ []) ≡ length bytes)
TookByte (Err faults.NoMemory) g bytes b count = Unit {0}

-- bytes that stand for themselves were taken, or there was no memory
abbrev pub TookRun : Result Unit Fault → Reading → List ℕ → List ℕ → ℕ → Type 0
TookRun (Ok u) g bytes bs count = Reads g (bytes ++ bs) (held_behind (state_of g) (count + length bs))
TookRun (Err f) g bytes bs count = f ≡ faults.NoMemory

-- some of a piece was taken, or why its first byte wasn't
abbrev pub Took : Result ℕ Fault → Reading → List ℕ → List ℕ → ℕ → Type 0
Took (Ok n) g bytes piece count = Reads g (bytes ++ take n piece) (held_behind (state_of g) (count + n))
Took (Err (faults.Html w)) g bytes piece count = (run start (bytes ++ piece) ≡ Err w) × (taken start (bytes ++ piece) ≡ length bytes)
Took (Err faults.NoMemory) g bytes piece count = Unit {0}
