-- The lines of a page by what they begin with.
use Rattle.std.specs.Prelude.{ℕ, suc, ◌==◌, ◌&&◌, Bool, true, List, [], ◌∷◌, if◌then◌else◌}
use Rattle.wt_span.specs.Bytes.{begins}
use Rattle.wt_span.specs.Characters as byte

-- how many lines begin with this sign; `fresh` says that a line begins here
abbrev pub lines_from : List ℕ → Bool → List ℕ → ℕ
lines_from sign fresh [] = 0
lines_from sign fresh (b ∷ bs) =
    if fresh && begins sign (b ∷ bs) then suc (lines_from sign (b == byte.line_break) bs) else lines_from sign (b == byte.line_break) bs

abbrev pub lines_with : List ℕ → List ℕ → ℕ
lines_with sign page = lines_from sign true page
