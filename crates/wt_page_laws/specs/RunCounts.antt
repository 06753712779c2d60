-- How many runs of a context switch bold, and italic, by their lengths alone.
use Rattle.std.specs.Prelude.{◌≡◌, ℕ, Some, List, count_by, map}
use Rattle.wt_quotes.specs.declared.chunk.Chunk.{Chunk}
use Rattle.wt_quotes.specs.Runs.{run_length}
use Rattle.wt_quotes.specs.Toggles.{toggles_by_length}
use Rattle.wt_isolation.specs.Toggles.{switches_bold, switches_italic}

-- the lengths of the runs, and 0 for each other chunk
abbrev pub run_lengths : List Chunk → List ℕ
run_lengths chunks = map (λ c. run_length (Some c)) chunks

-- the toggles of a style are as many as the lengths that switch it
abbrev pub CountsAgree : List Chunk → Type 0
CountsAgree chunks =
    (count_by (λ t. t.bold) (toggles_by_length chunks) ≡ count_by switches_bold (run_lengths chunks))
    × (count_by (λ t. t.italic) (toggles_by_length chunks) ≡ count_by switches_italic (run_lengths chunks))
