-- Choices of some of the edited children of a node: of each child, whether it is taken.
use Rattle.std.specs.Prelude.{◌≡◌, ◌<◌, ◌≤◌, ⊤, ℕ, suc, Bool, true, false, List, [], ◌∷◌, if◌then◌else◌}
use Rattle.wt_tree.specs.Tree.{Trees, none, more, label}
use Rattle.wt_checks.specs.Places.{Page}
use Rattle.wt_places.specs.Turns.{may_stay}

-- Each child that is taken may stay in the node with this number (`holder`), and its own number is greater than that of
-- the one taken before it; that of the first, than n.
abbrev pub IsRising : Page → ℕ → ℕ → List Bool → Trees → Type 0
IsRising page holder n [] none = ⊤
IsRising page holder n [] (more u us) = ⊥
IsRising page holder n (b ∷ bs) none = ⊥
IsRising page holder n (true ∷ bs) (more u us) = (may_stay page holder u ≡ true) × ((n < (label u).id) × IsRising page holder (label u).id bs us)
IsRising page holder n (false ∷ bs) (more u us) = IsRising page holder n bs us

-- how many are taken
abbrev pub taken : List Bool → ℕ
taken [] = 0
taken (true ∷ bs) = suc (taken bs)
taken (false ∷ bs) = taken bs

-- the choice of all that may stay
abbrev pub those_that_may_stay : Page → ℕ → Trees → List Bool
those_that_may_stay page holder none = []
those_that_may_stay page holder (more u us) = may_stay page holder u ∷ those_that_may_stay page holder us

-- how many may stay and aren't taken: these count as moved
abbrev pub moved : Page → ℕ → List Bool → Trees → ℕ
moved page holder [] us = 0
moved page holder (b ∷ bs) none = 0
moved page holder (true ∷ bs) (more u us) = moved page holder bs us
moved page holder (false ∷ bs) (more u us) = if may_stay page holder u then suc (moved page holder bs us) else moved page holder bs us

-- Where two choices of as many children first differ, if they do, the first of them takes the child and the second doesn't.
abbrev pub TakesFirst : List Bool → List Bool → Type 0
TakesFirst [] [] = ⊤
TakesFirst [] (c ∷ cs) = ⊥
TakesFirst (b ∷ bs) [] = ⊥
TakesFirst (true ∷ bs) (true ∷ cs) = TakesFirst bs cs
TakesFirst (true ∷ bs) (false ∷ cs) = ⊤
TakesFirst (false ∷ bs) (true ∷ cs) = ⊥
TakesFirst (false ∷ bs) (false ∷ cs) = TakesFirst bs cs

-- a choice that rises, of which none that rises takes more, and before any other that takes as many
pub record IsFirstOfMost (page : Page) (holder n : ℕ) (choice : List Bool) (us : Trees) : Type 0 where
  pub rising : IsRising page holder n choice us
  pub most : (other : List Bool) → IsRising page holder n other us → taken other ≤ taken choice
  pub first : (other : List Bool) → IsRising page holder n other us → taken other ≡ taken choice → TakesFirst choice other
