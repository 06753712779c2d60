-- Words that stand first, item by item.
use Rattle.std.proofs.Common.{◌≡◌, ℕ, zero, suc, ◌+◌, ◌<◌, ◌==◌, Bool, true, false, List, [], ◌∷◌, length, drop, get_or, refl, ap, ◌∙◌, arith}
use Rattle.std.specs.Prelude.{◌&&◌}
use Rattle.wt_tiles.specs.declared.glyph.Glyph.{Glyph}
use Rattle.wt_tiles.specs.Glyphs.{is_in, begins, like_byte, begins_like}

pub begins_short : (word : List ℕ) (gs : List Glyph) → length gs < length word → begins word gs ≡ false
begins_short [] gs h = absurd (omega arith)
begins_short (b ∷ word) [] h = refl
begins_short (b ∷ word) (g ∷ gs) h = by (is_in (λ c. c == b) g) (begins_short word gs (omega arith))
  where
    by : (t : Bool) → begins word gs ≡ false → (t && begins word gs) ≡ false
    by true e = e
    by false e = refl

pub begins_like_short : (word : List ℕ) (gs : List Glyph) → length gs < length word → begins_like word gs ≡ false
begins_like_short [] gs h = absurd (omega arith)
begins_like_short (b ∷ word) [] h = refl
begins_like_short (b ∷ word) (g ∷ gs) h = by (like_byte b g) (begins_like_short word gs (omega arith))
  where
    by : (t : Bool) → begins_like word gs ≡ false → (t && begins_like word gs) ≡ false
    by true e = e
    by false e = refl

-- the i-th items agree, or don't
pub begins_at : (word : List ℕ) (gs : List Glyph) (i : ℕ) (d : Glyph) → i < length word → i < length gs
    → begins (drop i word) (drop i gs) ≡ (is_in (λ c. c == get_or word i 0) (get_or gs i d) && begins (drop (i + 1) word) (drop (i + 1) gs))
begins_at [] gs i d h k = absurd (omega arith)
begins_at (b ∷ word) [] i d h k = absurd (omega arith)
begins_at (b ∷ word) (g ∷ gs) zero d h k = refl
begins_at (b ∷ word) (g ∷ gs) (suc i) d h k =
    let z : suc (i + 1) ≡ suc i + 1 = omega arith in
    begins_at word gs i d (omega arith) (omega arith)
    ∙ ap (λ m. is_in (λ c. c == get_or word i 0) (get_or gs i d) && begins (drop m (b ∷ word)) (drop m (g ∷ gs))) z

pub begins_like_at : (word : List ℕ) (gs : List Glyph) (i : ℕ) (d : Glyph) → i < length word → i < length gs
    → begins_like (drop i word) (drop i gs) ≡ (like_byte (get_or word i 0) (get_or gs i d) && begins_like (drop (i + 1) word) (drop (i + 1) gs))
begins_like_at [] gs i d h k = absurd (omega arith)
begins_like_at (b ∷ word) [] i d h k = absurd (omega arith)
begins_like_at (b ∷ word) (g ∷ gs) zero d h k = refl
begins_like_at (b ∷ word) (g ∷ gs) (suc i) d h k =
    let z : suc (i + 1) ≡ suc i + 1 = omega arith in
    begins_like_at word gs i d (omega arith) (omega arith)
    ∙ ap (λ m. like_byte (get_or word i 0) (get_or gs i d) && begins_like (drop m (b ∷ word)) (drop m (g ∷ gs))) z
