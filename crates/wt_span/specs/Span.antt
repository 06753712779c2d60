-- Ranges that follow one another.
use Rattle.std.specs.Prelude.{◌≡◌, ℕ, List, [], ◌∷◌}
use Rattle.wt_span.specs.declared.range.Range.{Range}

-- the ranges follow one another from `at` on
abbrev pub Follow : ℕ → List Range → Type 0
Follow at [] = Unit {0}
Follow at (r ∷ rs) = (r.start ≡ at) × Follow r.end rs

-- where the last of them ends
abbrev pub end_of : ℕ → List Range → ℕ
end_of at [] = at
end_of at (r ∷ rs) = end_of r.end rs
