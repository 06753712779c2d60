-- Findings lie in the page.
use Rattle.std.specs.Prelude.{ℕ, ◌≤◌, List, length}
use Rattle.wt_lint.specs.Found.{Span, KindAndRange}

-- a range of a page of this size
abbrev pub IsRange : ℕ → Span → Type 0
IsRange size s = (s.0 ≤ s.1) × (s.1 ≤ size)

abbrev pub LiesIn : List ℕ → KindAndRange → Type 0
LiesIn page f = IsRange (length page) f.1
