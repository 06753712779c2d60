-- The word that a URL begins with is no longer than the bytes.
use Rattle.std.proofs.Common.{arith, ◌≡◌, ◌≤◌, ℕ, Bool, true, List, [], ◌∷◌, length, sym, ◌∙◌}
use Rattle.std.proofs.lemmas.List.{length-map}
use Rattle.wt_tiles.proofs.Words.{and_right}
use Rattle.wt_tiles.specs.declared.glyph.Glyph.{Glyph}
use Rattle.wt_tiles.specs.declared.glyph.Glyph.TheVariants as glyph
use Rattle.wt_tiles.specs.Glyphs.{begins_like, byte_glyphs, like_byte}

pub word_fits : (word : List ℕ) (gs : List Glyph) → begins_like word gs ≡ true → length word ≤ length gs
word_fits [] gs e = omega arith
word_fits (w ∷ word) [] e = cc
word_fits (w ∷ word) (g ∷ gs) e = omega (arith, word_fits word gs (and_right (like_byte w g) (begins_like word gs) e))

pub scheme_fits : (word bs : List ℕ) (b : Bool) → b ≡ begins_like word (byte_glyphs bs) → b ≡ true → length word ≤ length bs
scheme_fits word bs b h e = omega (arith, word_fits word (byte_glyphs bs) (sym h ∙ e), length-map bs (λ (c : ℕ). glyph.Byte c))
