-- What the items, the calls and the text calls of an expanded page are by themselves.
use Rattle.std.specs.Prelude.{◌≤◌, ℕ, List, [], ◌∷◌}
use Rattle.wt_span.specs.Items.{Item, char, whole}
use Rattle.wt_span.specs.Origins.{FitsOrigin, Span}
use Rattle.wt_span.specs.Whole.{IsWhole}

-- a form has the bytes of one whole form, and comes from where such a form may come from
abbrev pub IsSoundItem : Item → Type 0
IsSoundItem (char o b) = Unit {0}
IsSoundItem (whole f o bs) = IsWhole f bs × FitsOrigin f o bs

abbrev pub AreSoundItems : List Item → Type 0
AreSoundItems [] = Unit {0}
AreSoundItems (x ∷ xs) = IsSoundItem x × AreSoundItems xs

-- spans that begin in order, between two places
abbrev pub RiseTo : ℕ → List Span → ℕ → Type 0
RiseTo at [] to = at ≤ to
RiseTo at (s ∷ ss) to = (at ≤ s.0) × RiseTo s.0 ss to
