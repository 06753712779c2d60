-- What holds of the toggles of every context.
use Rattle.std.specs.Prelude.{◌≡◌, ◌⊎◌, ℕ, ◌<◌, ◌≤◌, true, false, Some, List, All, slice_get, slice_set}
use Rattle.std.specs.List.{AllPairs, Any}
use Rattle.wt_quotes.specs.declared.chunk.Chunk.{Chunk}
use Rattle.wt_quotes.specs.declared.toggle.Toggle.{Toggle}
use Rattle.wt_quotes.specs.Runs.{run_length}
use Rattle.wt_quotes.specs.Toggles.{toggles_by_length, is_bold_alone, exchanged, is_due, toggles_of, IsOfRun}

-- the toggles are those by the lengths of the runs, but for one run of three, which is one character and a run of two
abbrev pub AtMostOneExchange : List Chunk → Type 0
AtMostOneExchange chunks =
    (toggles_of chunks ≡ toggles_by_length chunks)
    ⊎ ((i : ℕ) × (t : Toggle) × (slice_get (toggles_by_length chunks) i ≡ Some t) × (is_bold_alone t ≡ true)
    × (toggles_of chunks ≡ slice_set (toggles_by_length chunks) i (exchanged t)))

-- the numbers of bold and of italic toggles aren't both odd, but where no run of three could be exchanged
abbrev pub NotBothOdd : List Chunk → Type 0
NotBothOdd chunks = is_due (toggles_of chunks) ≡ true → All (λ t. is_bold_alone t ≡ false) (toggles_of chunks)

-- each toggle with its plain apostrophes is a run, each run of two or more has a toggle, and they are in the order of the runs
abbrev pub TogglesAreRuns : List Chunk → Type 0
TogglesAreRuns chunks =
    All (IsOfRun chunks) (toggles_of chunks)
    × ((k : ℕ) → 2 ≤ run_length (slice_get chunks k) → Any (λ t. t.chunk ≡ k) (toggles_of chunks))
    × AllPairs (λ t u. t.chunk < u.chunk) (toggles_of chunks)
