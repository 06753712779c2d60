-- What a list of names and pages has under a name, and what of a page is given.
use Rattle.std.specs.Prelude.{◌≡◌, ℕ, ◌≤◌, ◌⊎◌, List, [], ◌∷◌, ◌++◌, length, Some}
use Rattle.std.specs.List.{AllByRecursion}
use Rattle.wt_devices.specs.Device.{Pages}

-- none of these entries has the name
abbrev pub NoneIsNamed : List ℕ → List (List ℕ × List ℕ) → Type 0
NoneIsNamed name entries = AllByRecursion (λ entry. entry.0 ≡ name → ⊥) entries

-- an entry has this name and this page, and none before it has the name
pub record IsFirstNamed (entries : List (List ℕ × List ℕ)) (name page : List ℕ) : Type 0 where
  pub before : List (List ℕ × List ℕ)
  pub behind : List (List ℕ × List ℕ)
  pub whole : entries ≡ before ++ (name, page) ∷ behind
  pub first : NoneIsNamed name before

-- a page is under the name that begins with these bytes, which are at most so many; if they are fewer, they are all of it
pub record IsFrontOfPage (pages : Pages) (name : List ℕ) (most : ℕ) (bytes : List ℕ) : Type 0 where
  pub rest : List ℕ
  pub found : pages name ≡ Some (bytes ++ rest)
  pub within : length bytes ≤ most
  pub whole : (rest ≡ []) ⊎ (length bytes ≡ most)
