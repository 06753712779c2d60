-- Trimming in other words.
use Rattle.std.specs.Prelude.{◌≡◌, Bool, true, false, List, [], ◌∷◌, ◌++◌, reverse}

abbrev pub AllPass : {A : Type 0} → (A → Bool) → List A → Type 0
AllPass p [] = Unit {0}
AllPass p (x ∷ xs) = (p x ≡ true) × AllPass p xs

abbrev pub FirstFails : {A : Type 0} → (A → Bool) → List A → Type 0
FirstFails p [] = Unit {0}
FirstFails p (x ∷ xs) = p x ≡ false

-- what was cut off at the two ends passes the test, and neither the first nor the last of what is left does
pub record IsTrimmed {A : Type 0} (p : A → Bool) (xs ys : List A) : Type 0 where
  pub front : List A
  pub back : List A
  pub all : xs ≡ front ++ (ys ++ back)
  pub front_passes : AllPass p front
  pub back_passes : AllPass p back
  pub first_stays : FirstFails p ys
  pub last_stays : FirstFails p (reverse ys)
