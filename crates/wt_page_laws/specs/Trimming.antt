-- What is between white space.
use Rattle.std.specs.Prelude.{◌≡◌, ℕ, List, [], ◌∷◌, ◌++◌}
use Rattle.std.specs.List.{AllByRecursion}

-- a space, a tab or a line break
pub data IsWhite : ℕ → Type 0 where
  space : IsWhite 32
  tab : IsWhite 9
  line_break : IsWhite 10

-- a text between white space, which itself neither begins nor ends with any
pub record StandsBetweenWhite (all text : List ℕ) : Type 0 where
  pub before : List ℕ
  pub behind : List ℕ
  pub whole : all ≡ before ++ (text ++ behind)
  pub white_before : AllByRecursion IsWhite before
  pub white_behind : AllByRecursion IsWhite behind
  pub begins : (b : ℕ) (rest : List ℕ) → text ≡ b ∷ rest → IsWhite b → ⊥
  pub ends : (front : List ℕ) (b : ℕ) → text ≡ front ++ (b ∷ []) → IsWhite b → ⊥
