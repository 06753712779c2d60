-- Worked cases of counts, and of what a folder has and gives.
use Rattle.std.proofs.Common.{◌≡◌, ℕ, List, [], ◌∷◌, Some, None, refl}
use Rattle.std.specs.Prelude.{codes}
use Rattle.wt_devices.specs.Device.{Pages, Gives}
use Rattle.wt_devices.specs.Shelf.{look_up}
use Rattle.wt_devices.specs.declared.device.Fetched.TheVariants.{Found, Absent}

abbrev entries : List (List ℕ × List ℕ)
entries = (codes "A", codes "a") ∷ (codes "B", codes "b") ∷ (codes "A", codes "c") ∷ []

-- the first entry of a name counts
first_counts : look_up entries (codes "A") ≡ Some (codes "a")
first_counts = refl

not_there : look_up entries (codes "C") ≡ None
not_there = refl

-- of a page of three bytes a fetch of at most two gives two, and one of at most five gives all
abbrev shelf : Pages
shelf = look_up ((codes "A", codes "xyz") ∷ [])

two_of_three : Gives (Some shelf) (codes "A") 2 (Found (codes "xy"))
two_of_three = refl

all_three : Gives (Some shelf) (codes "A") 5 (Found (codes "xyz"))
all_three = refl

none_given : Gives (Some shelf) (codes "B") 5 Absent
none_given = refl
