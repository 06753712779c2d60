-- Where a list of items may be cut so that no character lies on both sides.
use Rattle.std.specs.Prelude.{◌≡◌, ◌⊎◌, ℕ, zero, suc, ◌+◌, Bool, true, false, List, [], ◌∷◌, length, nat_lt}
use Rattle.wt_tiles.specs.declared.glyph.Glyph.{Glyph}
use Rattle.wt_tiles.specs.declared.glyph.Glyph.TheVariants as glyph
use Rattle.wt_tiles.specs.declared.shape.Shape.{Shape}

-- a character of one byte, an atom or a mark
abbrev pub is_low : Glyph → Bool
is_low (glyph.Byte b) = nat_lt b 128
is_low (glyph.Entity c) = true
is_low glyph.Atom = true
is_low glyph.Mark = true

-- the k-th item is there, and is such a one
abbrev pub low_at : List Glyph → ℕ → Bool
low_at [] k = false
low_at (g ∷ gs) zero = is_low g
low_at (g ∷ gs) (suc k) = low_at gs k

-- and so is the item before it
abbrev pub low_before : List Glyph → ℕ → Bool
low_before gs zero = false
low_before gs (suc k) = low_at gs k

-- the items end here, or such an item is on one side
abbrev pub IsEdge : List Glyph → ℕ → Type 0
IsEdge gs n = (n ≡ length gs) ⊎ (low_at gs n ≡ true) ⊎ (low_before gs n ≡ true)

-- the items may be cut at both ends of each part of a shape that they begin with
pub record HasEdges (gs : List Glyph) (w : Shape) : Type 0 where
  pub start : low_at gs 0 ≡ true
  pub opening : IsEdge gs w.opening
  pub inside : IsEdge gs (w.opening + w.inside)
  pub closing : IsEdge gs (w.opening + w.inside + w.closing)
  pub trail : IsEdge gs (w.opening + w.inside + w.closing + w.trail)
