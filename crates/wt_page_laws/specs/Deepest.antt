-- The first of some calls that has too many of all calls round it.
use Rattle.std.specs.Prelude.{◌≡◌, ℕ, ◌<◌, ◌≤◌, List, ◌∷◌, ◌++◌}
use Rattle.std.specs.List.{AllByRecursion}
use Rattle.wt_span.specs.Braces.{CallAt, nesting}
use Rattle.wt_braces.specs.declared.nesting.TheConstants.{NESTED_BRACES}

-- none of these has so many calls round it
abbrev pub NoneIsDeep : List CallAt → List CallAt → Type 0
NoneIsDeep all cs = AllByRecursion (λ c. nesting all c < NESTED_BRACES) cs

-- one that has begins at this place, and none before it has
pub record IsFirstDeep (all : List CallAt) (place : ℕ) : Type 0 where
  pub before : List CallAt
  pub deep : CallAt
  pub behind : List CallAt
  pub whole : all ≡ before ++ deep ∷ behind
  pub place_is : place ≡ deep.from
  pub is_deep : NESTED_BRACES ≤ nesting all deep
  pub first : NoneIsDeep all before
