-- How many apostrophes of a run its delimiters take, and which run is exchanged.
use Rattle.std.specs.Prelude.{◌≡◌, ◌⊎◌, ℕ, ◌<◌, ◌≤◌, true, false, Some, List, All, slice_get, slice_set}
use Rattle.wt_quotes.specs.declared.chunk.Chunk.{Chunk}
use Rattle.wt_quotes.specs.declared.toggle.Toggle.{Toggle}
use Rattle.wt_quotes.specs.declared.toggle.Preceding.{Preceding}
use Rattle.wt_quotes.specs.declared.toggle.Preceding.TheVariants.{OneLetter, Middle, Space}
use Rattle.wt_quotes.specs.Runs.{run_length}
use Rattle.wt_quotes.specs.Toggles.{toggles_by_length, width_of, class_at, is_bold_alone, exchanged, is_due, toggles_of}

-- a delimiter, or the two of a run that switches both, has two, three or five apostrophes
abbrev pub IsWidth : ℕ → Type 0
IsWidth w = (w ≡ 2) ⊎ (w ≡ 3) ⊎ (w ≡ 5)

-- the greatest such number that isn't above n
abbrev pub IsWidest : ℕ → ℕ → Type 0
IsWidest n w = IsWidth w × (w ≤ n) × ((v : ℕ) → IsWidth v → v ≤ n → v ≤ w)

-- by its length alone a run gives its delimiters as many of its apostrophes as it can
abbrev pub TakesMost : List Chunk → Type 0
TakesMost chunks = All (λ t. IsWidest (run_length (slice_get chunks t.chunk)) (width_of t)) (toggles_by_length chunks)

-- after one letter comes before the middle class, and that before after a space
abbrev pub rank : Preceding → ℕ
rank OneLetter = 0
rank Middle = 1
rank Space = 2

-- a run is taken rather than another one: its class comes before the other's, or they are alike and it is no later
abbrev pub IsRather : List Chunk → ℕ → Toggle → ℕ → Toggle → Type 0
IsRather chunks i t k u =
    (rank (class_at chunks t.chunk) < rank (class_at chunks u.chunk))
    ⊎ ((rank (class_at chunks t.chunk) ≡ rank (class_at chunks u.chunk)) × (i ≤ k))

-- the toggle in the list's place i is of a run of three, and it is taken rather than any other of them
abbrev pub IsChosen : List Chunk → ℕ → Toggle → Type 0
IsChosen chunks i t =
    (slice_get (toggles_by_length chunks) i ≡ Some t) × (is_bold_alone t ≡ true)
    × ((k : ℕ) (u : Toggle) → slice_get (toggles_by_length chunks) k ≡ Some u → is_bold_alone u ≡ true → IsRather chunks i t k u)

-- Where both numbers are odd and a run of three is in the context, one that is taken rather than any other is exchanged, and
-- else none.
abbrev pub OneIsChosen : List Chunk → Type 0
OneIsChosen chunks =
    ((is_due (toggles_by_length chunks) ≡ true) × (i : ℕ) × (t : Toggle) × IsChosen chunks i t
    × (toggles_of chunks ≡ slice_set (toggles_by_length chunks) i (exchanged t)))
    ⊎ (((is_due (toggles_by_length chunks) ≡ false) ⊎ All (λ t. is_bold_alone t ≡ false) (toggles_by_length chunks))
    × (toggles_of chunks ≡ toggles_by_length chunks))
