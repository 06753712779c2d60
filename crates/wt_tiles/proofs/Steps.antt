-- For the loop that reads the tiles: what stands at a place.
use Rattle.std.proofs.Common.{◌≡◌, ℕ, zero, suc, ◌+◌, ◌-◌, ◌<◌, ◌≤◌, Bool, false, Option, Some, None, List, [], ◌∷◌, length, drop, get_or, refl, ap, ◌∙◌, arith, length-drop}
use Rattle.std.specs.Prelude.{IfSome}
use Rattle.wt_tiles.specs.declared.context.Context.{Context}
use Rattle.wt_tiles.specs.declared.glyph.Glyph.{Glyph}
use Rattle.wt_tiles.specs.declared.glyph.Glyph.TheVariants as glyph
use Rattle.wt_tiles.specs.declared.shape.Shape.{Shape}
use Rattle.wt_tiles.specs.Glyphs.{is_in}
use Rattle.wt_tiles.specs.Urls.{is_word}
use Rattle.wt_tiles.specs.Tiles.{size}
use Rattle.wt_tiles.specs.Reading.{tile_at, is_word_at, word_before}
use Rattle.wt_tiles.specs.Firsts.{may_begin}
use Rattle.wt_tiles.proofs.Fits.{tile_fits}
use Rattle.wt_tiles.proofs.TagInsides.{no_form}

at_cons : (gs : List Glyph) (at : ℕ) (d : Glyph) → at < length gs → drop at gs ≡ get_or gs at d ∷ drop (at + 1) gs
at_cons [] at d h = absurd (omega arith)
at_cons (g ∷ gs) zero d h = refl
at_cons (g ∷ gs) (suc at) d h = let z : suc (at + 1) ≡ suc at + 1 = omega arith in at_cons gs at d (omega arith) ∙ ap (λ m. get_or gs at d ∷ drop m (g ∷ gs)) z

pub none_at : (cx : Context) (after : Bool) (gs : List Glyph) (at : ℕ) (d : Glyph) (b : ℕ) → at < length gs
    → get_or gs at d ≡ glyph.Byte b → may_begin b ≡ false → tile_at cx after (drop at gs) ≡ None
none_at cx after gs at d b h is e =
    ap (tile_at cx after) (at_cons gs at d h ∙ ap (λ (g : Glyph). g ∷ drop (at + 1) gs) is) ∙ no_form cx after b (drop (at + 1) gs) e

word_get : (gs : List Glyph) (k : ℕ) (d : Glyph) → k < length gs → is_word_at gs k ≡ is_in is_word (get_or gs k d)
word_get [] k d h = absurd (omega arith)
word_get (g ∷ gs) zero d h = refl
word_get (g ∷ gs) (suc k) d h = word_get gs k d (omega arith)

pub word_at : (gs : List Glyph) (at : ℕ) (d : Glyph) → 0 < at → at ≤ length gs → word_before false gs at ≡ is_in is_word (get_or gs (at - 1) d)
word_at gs zero d pos h = absurd (omega arith)
word_at gs (suc k) d pos h = let z : k ≡ suc k - 1 = omega arith in word_get gs k d (omega arith) ∙ ap (λ m. is_in is_word (get_or gs m d)) z

pub if_some : (o : Option ℕ) (P : ℕ → Type 0) → ((n : ℕ) → o ≡ Some n → P n) → IfSome o P
if_some None P f = tt
if_some (Some n) P f = f n refl

-- a tile at a place lies within the items
pub record TileFits (gs : List Glyph) (at : ℕ) (w : Shape) : Type 0 where
  pub some : 0 < size w
  pub within : at + size w ≤ length gs

pub fits_at : (cx : Context) (after : Bool) (gs : List Glyph) (at : ℕ) (w : Shape) → at < length gs → tile_at cx after (drop at gs) ≡ Some w → TileFits gs at w
fits_at cx after gs at w h e = let f = tile_fits cx after (drop at gs) w e in record { some = f.some; within = omega (arith, f.within, length-drop at gs) }
