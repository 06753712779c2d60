-- Apostrophes, `_`, colons and slashes, and what is none of them.
use Rattle.std.proofs.Common.{arith, ◌≡◌, ℕ, ◌==◌, Bool, true, false, refl, sym, ap, ◌∙◌}
use Rattle.std.specs.Prelude.{◌||◌, not}
use Rattle.std.specs.Char.{to_ascii_lowercase}
use Rattle.std.proofs.lemmas.Bool.Decides.{nat_tests}
use Rattle.wt_tiles.specs.declared.glyph.Glyph.{Glyph}
use Rattle.wt_tiles.specs.declared.glyph.Glyph.TheVariants as glyph
use Rattle.wt_tiles.specs.Glyphs.{is_in, like_byte}
use Rattle.wt_beside_laws.specs.Given.{is_half_sign, is_apart}

-- ---- one of them

pub lower_colon : (b : ℕ) → (to_ascii_lowercase b == 58) ≡ true → (b == 58) ≡ true
lower_colon b e = grind (arith, nat_tests, e)

lower_slash : (b : ℕ) → (to_ascii_lowercase b == 47) ≡ true → (b == 47) ≡ true
lower_slash b e = grind (arith, nat_tests, e)

pub half_quote : (b : ℕ) → (b == 39) ≡ true → is_half_sign b ≡ true
half_quote b e = ap (λ (v : Bool). v || (b == 95 || b == 58)) e

pub half_underscore : (b : ℕ) → (b == 95) ≡ true → is_half_sign b ≡ true
half_underscore b e = by (b == 39) (b == 95) (b == 58) e
  where
    by : (u v w : Bool) → v ≡ true → (u || (v || w)) ≡ true
    by true v w i = refl
    by false true w i = refl
    by false false w i = cc

pub half_colon : (b : ℕ) → (b == 58) ≡ true → is_half_sign b ≡ true
half_colon b e = by (b == 39) (b == 95) (b == 58) e
  where
    by : (u v w : Bool) → w ≡ true → (u || (v || w)) ≡ true
    by true v w i = refl
    by false true w i = refl
    by false false w i = i

-- ---- none of them

pub not_true : (v : Bool) → not v ≡ true → v ≡ false
not_true true e = cc
not_true false e = refl

contrary : (u v : Bool) → (u ≡ true → v ≡ true) → v ≡ false → u ≡ false
contrary true v f e = sym (f refl) ∙ e
contrary false v f e = refl

all_false : (u v w x : Bool) → ((u || (v || w)) || x) ≡ false → (u ≡ false) × (v ≡ false) × (w ≡ false) × (x ≡ false)
all_false true v w x e = cc
all_false false true w x e = cc
all_false false false true x e = cc
all_false false false false x e = (refl, refl, refl, e)

-- no apostrophe, no `_`, no colon, no slash
pub apart_sign : (b : ℕ) → is_apart (glyph.Byte b) ≡ true → ((b == 39) ≡ false) × ((b == 95) ≡ false) × ((b == 58) ≡ false) × ((b == 47) ≡ false)
apart_sign b e = all_false (b == 39) (b == 95) (b == 58) (b == 47) (not_true (is_half_sign b || b == 47) e)

pub apart_slash : (g : Glyph) → is_apart g ≡ true → like_byte 47 g ≡ false
apart_slash (glyph.Byte b) e = let h = apart_sign b e in contrary (to_ascii_lowercase b == 47) (b == 47) (lower_slash b) h.3
apart_slash (glyph.Entity c) e = refl
apart_slash glyph.Atom e = refl
apart_slash glyph.Mark e = refl

pub apart_colon : (g : Glyph) → is_apart g ≡ true → like_byte 58 g ≡ false
apart_colon (glyph.Byte b) e = let h = apart_sign b e in contrary (to_ascii_lowercase b == 58) (b == 58) (lower_colon b) h.2
apart_colon (glyph.Entity c) e = refl
apart_colon glyph.Atom e = refl
apart_colon glyph.Mark e = refl

pub apart_underscore : (g : Glyph) → is_apart g ≡ true → is_in (λ (b : ℕ). b == 95) g ≡ false
apart_underscore (glyph.Byte b) e = let h = apart_sign b e in h.1
apart_underscore (glyph.Entity c) e = refl
apart_underscore glyph.Atom e = refl
apart_underscore glyph.Mark e = refl
