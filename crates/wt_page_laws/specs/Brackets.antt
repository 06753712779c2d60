-- Brackets that balance, as a grammar has them.
use Rattle.std.specs.Prelude.{◌≡◌, ◌+◌, ◌-◌, true, false, List, ◌∷◌, length, drop, codes}
use Rattle.wt_tiles.specs.declared.glyph.Glyph.{Glyph}
use Rattle.wt_tiles.specs.declared.shape.Shape.{Shape}
use Rattle.wt_tiles.specs.declared.shape.TileKind.TheVariants as kind
use Rattle.wt_tiles.specs.Glyphs.{begins}
use Rattle.wt_tiles.specs.Links.{leaf}

-- From these items on to those is nothing; or an item at which no bracket begins, and then what balances; or `[[`, what balances,
-- `]]`, and again what balances.
pub data Balances : List Glyph → List Glyph → Type 0 where
  nothing : (gs : List Glyph) → Balances gs gs
  item : (g : Glyph) (gs ys : List Glyph) → begins (codes "]]") (g ∷ gs) ≡ false → begins (codes "[[") (g ∷ gs) ≡ false
      → Balances gs ys → Balances (g ∷ gs) ys
  pair : (gs zs ys : List Glyph) → begins (codes "[[") gs ≡ true → Balances (drop 2 gs) zs → begins (codes "]]") zs ≡ true
      → Balances (drop 2 zs) ys → Balances gs ys

-- and then a `]]` follows
abbrev pub BalancesTo : List Glyph → List Glyph → Type 0
BalancesTo gs ys = Balances gs ys × (begins (codes "]]") ys ≡ true)

-- Media, by what follows its `[[`, ends with the `]]` before which that balances.
abbrev pub EndsBalanced : List Glyph → Shape → Type 0
EndsBalanced gs w = (ys : List Glyph) × BalancesTo gs ys × (w ≡ leaf kind.Media (length gs - length ys + 4))
