-- Partners by count: how many tags of a name open and close before a place.
use Rattle.std.specs.Prelude.{◌≡◌, ◌<◌, ℕ, zero, suc, ◌+◌, List, [], ◌∷◌, drop}
use Rattle.wt_tiles.specs.declared.glyph.Glyph.{Glyph}
use Rattle.wt_tiles.specs.Partners.{DepthChange, Up, Down, Level, tag_turn}

abbrev pub opened_by : DepthChange → ℕ
opened_by Up = 1
opened_by Down = 0
opened_by Level = 0

abbrev pub closed_by : DepthChange → ℕ
closed_by Up = 0
closed_by Down = 1
closed_by Level = 0

-- how many tags of the k-th name begin at the first n items that open, and that close
abbrev pub opened : ℕ → ℕ → List Glyph → ℕ
opened k zero gs = 0
opened k (suc n) [] = 0
opened k (suc n) (g ∷ gs) = opened_by (tag_turn k (g ∷ gs)) + opened k n gs

abbrev pub closed : ℕ → ℕ → List Glyph → ℕ
closed k zero gs = 0
closed k (suc n) [] = 0
closed k (suc n) (g ∷ gs) = closed_by (tag_turn k (g ∷ gs)) + closed k n gs

-- a closing tag before which, of those after a place, as many have been closed as opened
abbrev pub Closes : ℕ → List Glyph → ℕ → Type 0
Closes k gs n = (tag_turn k (drop n gs) ≡ Down) × (closed k n gs ≡ opened k n gs)

-- every closing tag before a place closes one that was opened after the start
abbrev pub AreInner : ℕ → List Glyph → ℕ → Type 0
AreInner k gs n = (m : ℕ) → m < n → tag_turn k (drop m gs) ≡ Down → closed k m gs < opened k m gs
