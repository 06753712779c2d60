-- Where a tag is first, and what is taken of a template's text up to it.
use Rattle.std.specs.Prelude.{◌≡◌, ◌<◌, ℕ, suc, Bool, false, Option, Some, None, option_map, List, [], ◌∷◌, ◌++◌, ◌+◌, length, drop, if◌then◌else◌}
use Rattle.wt_expand.specs.Templates.{begins_only, insides}

-- how many bytes come before the first place that passes a test
abbrev pub first_at : (List ℕ → Bool) → List ℕ → Option ℕ
first_at test [] = None
first_at test (b ∷ bs) = if test (b ∷ bs) then Some 0 else option_map suc (first_at test bs)

-- what comes after the first `<onlyinclude>`
abbrev pub behind_begin : List ℕ → Option (List ℕ)
behind_begin bs = option_map (λ n. drop (n + 13) bs) (first_at begins_only bs)

-- the next inside and what follows it; or nothing more is taken
abbrev pub IsNext : List ℕ → Option (List ℕ × List ℕ) → Type 0
IsNext bs None = insides 0 false bs ≡ []
IsNext bs (Some (inside, rest)) = (insides 0 false bs ≡ inside ++ insides 0 false rest) × (length rest < length bs)
