-- Names that are asked for, in other words; and pages that take no template.
use Rattle.std.specs.Prelude.{◌≡◌, ℕ, List, [], ◌∷◌, ◌++◌, Contains}
use Rattle.wt_span.specs.Braces.{Member, Members, lexeme, call, none, more}

-- no name is there twice
abbrev pub AreOnce : List (List ℕ) → Type 0
AreOnce [] = Unit {0}
AreOnce (n ∷ ns) = (Contains ns n → ⊥) × AreOnce ns

-- all calls are arguments
abbrev mutual
  pub IsArgument : Member → Type 0
  IsArgument (lexeme w) = Unit {0}
  IsArgument (call k ms) = (k ≡ 3) × AreArguments ms

  pub AreArguments : Members → Type 0
  AreArguments none = Unit {0}
  AreArguments (more m ms) = IsArgument m × AreArguments ms

-- a list that others were appended to
abbrev pub IsLonger : List (List ℕ) → List (List ℕ) → Type 0
IsLonger ns all = (rest : List (List ℕ)) × (all ≡ ns ++ rest)
