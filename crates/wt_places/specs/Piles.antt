-- How many children can stay in their turn, by the greatest number from which so many rise: one number for each count,
-- which fall. A child before them all changes one of these.
use Rattle.std.specs.Prelude.{ℕ, suc, ◌<◌, ⊤, nat_lt, List, [], ◌∷◌, ◌++◌, if◌then◌else◌}
use Rattle.wt_tree.specs.Tree.{Tree, Trees, none, more, label}
use Rattle.wt_checks.specs.Places.{Page}
use Rattle.wt_places.specs.Turns.{may_stay, most_after}

-- each is less than the one before, the first than this one
abbrev pub FallFrom : ℕ → List ℕ → Type 0
FallFrom n [] = ⊤
FallFrom n (m ∷ ms) = (m < n) × FallFrom m ms

abbrev pub AreFalling : List ℕ → Type 0
AreFalling [] = ⊤
AreFalling (m ∷ ms) = FallFrom m ms

-- how many are above this number, from the first on
abbrev pub above : ℕ → List ℕ → ℕ
above n [] = 0
above n (m ∷ ms) = if nat_lt n m then suc (above n ms) else 0

-- a number in the place of the first that isn't above it, or after them all
abbrev pub put : ℕ → List ℕ → List ℕ
put n [] = n ∷ []
put n (m ∷ ms) = if nat_lt n m then m ∷ put n ms else n ∷ ms

-- how many can stay in their turn from this child on, itself among them; none where it doesn't stay
abbrev pub rise_from : Page → ℕ → Tree → Trees → ℕ
rise_from page holder u us = if may_stay page holder u then suc (most_after page holder (label u).id us) else 0

-- the same of each of these
abbrev pub rises : Page → ℕ → Trees → List ℕ
rises page holder none = []
rises page holder (more u us) = rise_from page holder u us ∷ rises page holder us
