-- Names that are taken from the innermost on.
use Rattle.std.specs.Prelude.{◌≡◌, ℕ, Option, Some, None, List, [], ◌∷◌}

-- the innermost name is taken, where there is one
abbrev pub TakesName : Option (List ℕ) → List (List ℕ) → List (List ℕ) → Type 0
TakesName None old new = (old ≡ []) × (new ≡ [])
TakesName (Some n) old new = old ≡ n ∷ new
