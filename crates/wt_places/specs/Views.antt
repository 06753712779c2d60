-- What the code's own types mean.
use Rattle.std.specs.Prelude.{Option, Some, None, List, [], ◌∷◌}
use Rattle.wt_tree.specs.Tree.{Tree}
use Rattle.wt_checks.specs.Places.{Page}
use Rattle.wt_places.specs.declared.slot.Slot.{Slot}
use Rattle.wt_places.specs.Places.{places_in}

abbrev pub slots_of : Option Slot → List Slot
slots_of None = []
slots_of (Some s) = s ∷ []

-- the places in a node, where there is a node of the page to write anew
abbrev pub places_within : Page → Tree → Option Tree → List Slot
places_within page u None = []
places_within page u (Some t) = places_in page t u
