-- A heading in other words: what is at its ends.
use Rattle.std.specs.Prelude.{◌≡◌, ◌<◌, ◌*◌, ℕ, Bool, true, List, ◌++◌, length, take, reverse, replicate}
use Rattle.std.specs.List.{AllByRecursion}
use Rattle.wt_span.specs.Bytes.{is_blank}
use Rattle.wt_span.specs.Characters as byte
use Rattle.wt_lines.specs.Kinds.{is_idle}

-- so many `=` are at both ends, and something between them
abbrev pub StandAtEnds : ℕ → List ℕ → Type 0
StandAtEnds n ss = (take n ss ≡ replicate n byte.equals_sign) × (take n (reverse ss) ≡ replicate n byte.equals_sign) × (2 * n < length ss)

abbrev pub AllPass : (ℕ → Bool) → List ℕ → Type 0
AllPass test ss = AllByRecursion (λ s. test s ≡ true) ss

-- so many `=`, and blanks
abbrev pub IsOpening : ℕ → List ℕ → Type 0
IsOpening n ss = (blanks : List ℕ) × (ss ≡ replicate n byte.equals_sign ++ blanks) × AllPass is_blank blanks

-- from the back: blanks and marks, so many `=`, and blanks
abbrev pub IsClosing : ℕ → List ℕ → Type 0
IsClosing n ss = (end : List ℕ) × (blanks : List ℕ) × (reverse ss ≡ end ++ (replicate n byte.equals_sign ++ blanks)) × AllPass is_idle end × AllPass is_blank blanks
