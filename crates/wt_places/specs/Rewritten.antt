-- A new page that is a page written anew in the places in which an edited tree differs from it, and nowhere else.
use Rattle.std.specs.Prelude.{◌≡◌, ℕ, ◌≤◌, ◌⊎◌, List, [], ◌∷◌, length}
use Rattle.std.specs.List.{AllByRecursion}
use Rattle.wt_tree.specs.Tree.{Tree}
use Rattle.wt_splice.specs.Splice.{AreApart, Change, spliced}
use Rattle.wt_places.specs.declared.slot.Slot.{Slot}
use Rattle.wt_places.specs.Places.{places}

abbrev pub LiesIn : Slot → Change → Type 0
LiesIn s c = (s.start ≤ c.start) × (c.end ≤ s.end)

abbrev pub LiesInOne : List Slot → Change → Type 0
LiesInOne [] c = ⊥
LiesInOne (s ∷ ss) c = LiesIn s c ⊎ LiesInOne ss c

-- the slices that are written anew, one after the other, each in one of these places
pub record IsRewrittenIn (page : List ℕ) (within : List Slot) (new : List ℕ) : Type 0 where
  pub changes : List Change
  pub apart : AreApart 0 changes (length page)
  pub lie_in : AllByRecursion (LiesInOne within) changes
  pub is : spliced page changes ≡ new

abbrev pub IsRewritten : List ℕ → Tree → Tree → List ℕ → Type 0
IsRewritten page t u new = IsRewrittenIn page (places t u) new
