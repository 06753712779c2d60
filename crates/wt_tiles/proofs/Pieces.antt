-- Pieces as lists of items that inline forms read.
use Rattle.std.proofs.Common.{◌≡◌, ℕ, zero, suc, ◌+◌, ◌<◌, true, false, Option, Some, None, List, [], ◌∷◌, ◌++◌, length, map, get_or, refl, sym, ap, inl, inr, arith, subst}
use Rattle.std.specs.List.{All}
use Rattle.std.specs.Str.{IsUtf8, IsCharBoundary}
use Rattle.std.proofs.lemmas.Str.{IsCharBoundary-before_ascii, IsCharBoundary-after_ascii}
use Rattle.std.proofs.lemmas.List.{length-map}
use Rattle.wt_span.specs.declared.form.ItemForm.{ItemForm}
use Rattle.wt_span.specs.declared.form.ItemForm.TheVariants as form
use Rattle.wt_span.specs.declared.form.Piece.{Piece}
use Rattle.wt_span.specs.Slice.{bytes_of}
use Rattle.wt_span.specs.Items.{char, items_of, items_by, call_of_origin}
use Rattle.wt_span.specs.Origins.{IsSoundPiece}
use Rattle.wt_lines.specs.Pieces.{is_chars, count_by, item_count}
use Rattle.wt_tiles.specs.declared.glyph.Glyph.{Glyph}
use Rattle.wt_tiles.specs.declared.glyph.Glyph.TheVariants as glyph
use Rattle.wt_tiles.specs.Glyphs.{glyph_of, glyph_of_form, byte_glyphs}
use Rattle.wt_tiles.specs.Edges.{low_at, IsEdge}
use Rattle.wt_tiles.specs.Cutting.{first_piece, IsEdgeIn}
use Rattle.wt_tiles.proofs.Words.{false_true, lt_is}

glyphs_of_bytes : (o : Option ℕ) (bs : List ℕ) → map glyph_of (map (char o) bs) ≡ byte_glyphs bs
glyphs_of_bytes o [] = refl
glyphs_of_bytes o (b ∷ bs) = ap (λ gs. glyph.Byte b ∷ gs) (glyphs_of_bytes o bs)

chars_by : (f : ItemForm) (o : Option ℕ) (bs : List ℕ) → is_chars f ≡ true → map glyph_of (items_by f o bs) ≡ byte_glyphs bs
chars_by form.Chars o bs e = glyphs_of_bytes o bs
chars_by (form.Entity c) o bs e = false_true e
chars_by form.Nowiki o bs e = false_true e
chars_by form.Extension o bs e = false_true e
chars_by form.Function o bs e = false_true e
chars_by form.Comment o bs e = false_true e
chars_by form.Include o bs e = false_true e
chars_by form.Hidden o bs e = false_true e
chars_by form.EmptyCall o bs e = false_true e

whole_by : (f : ItemForm) (o : Option ℕ) (bs : List ℕ) → is_chars f ≡ false → map glyph_of (items_by f o bs) ≡ glyph_of_form f ∷ []
whole_by form.Chars o bs e = false_true (sym e)
whole_by (form.Entity c) o bs e = refl
whole_by form.Nowiki o bs e = refl
whole_by form.Extension o bs e = refl
whole_by form.Function o bs e = refl
whole_by form.Comment o bs e = refl
whole_by form.Include o bs e = refl
whole_by form.Hidden o bs e = refl
whole_by form.EmptyCall o bs e = refl

pub piece_chars : (p : Piece) → is_chars p.form ≡ true → map glyph_of (items_of p) ≡ byte_glyphs (bytes_of p.text)
piece_chars p e = chars_by p.form (call_of_origin p.origin) (bytes_of p.text) e

pub piece_whole : (p : Piece) → is_chars p.form ≡ false → map glyph_of (items_of p) ≡ glyph_of_form p.form ∷ []
piece_whole p e = whole_by p.form (call_of_origin p.origin) (bytes_of p.text) e

-- a piece that is cut holds characters
cut_is_chars : (f : ItemForm) (bs : List ℕ) (n : ℕ) → 0 < n → n < count_by (is_chars f) bs → (is_chars f ≡ true) × (n < length bs)
cut_is_chars form.Chars bs n s h = (refl, h)
cut_is_chars (form.Entity c) bs n s h = absurd (omega arith)
cut_is_chars form.Nowiki bs n s h = absurd (omega arith)
cut_is_chars form.Extension bs n s h = absurd (omega arith)
cut_is_chars form.Function bs n s h = absurd (omega arith)
cut_is_chars form.Comment bs n s h = absurd (omega arith)
cut_is_chars form.Include bs n s h = absurd (omega arith)
cut_is_chars form.Hidden bs n s h = absurd (omega arith)
cut_is_chars form.EmptyCall bs n s h = absurd (omega arith)

low_byte : (bs : List ℕ) (k : ℕ) → low_at (byte_glyphs bs) k ≡ true → (get_or bs k 0 < 128) × (k < length bs)
low_byte [] k e = false_true e
low_byte (b ∷ bs) zero e = (lt_is b 128 e, omega arith)
low_byte (b ∷ bs) (suc k) e = let h = low_byte bs k e in (h.0, omega (arith, h.1))

edge_border : (bs : List ℕ) (n : ℕ) → IsUtf8 bs → 0 < n → n < length bs → IsEdge (byte_glyphs bs) n → IsCharBoundary bs n
edge_border bs n u pos h (inl end) = absurd (omega (arith, length-map bs (λ b. glyph.Byte b)))
edge_border bs n u pos h (inr (inl low)) = IsCharBoundary-before_ascii bs n h (let l = low_byte bs n low in l.0)
edge_border bs zero u pos h (inr (inr low)) = absurd (omega arith)
edge_border bs (suc k) u pos h (inr (inr low)) =
    let z : k + 1 ≡ suc k = omega arith in
    let P : ℕ → Type 0 = λ m. IsCharBoundary bs m in
    let l = low_byte bs k low in
    subst P z (IsCharBoundary-after_ascii bs k u l.1 l.0)

-- where a piece may be cut, its text may
pub piece_border : (p : Piece) (n : ℕ) → IsUtf8 (bytes_of p.text) → 0 < n → n < item_count p → IsEdgeIn (items_of p) n → IsCharBoundary (bytes_of p.text) n
piece_border p n u pos h edge =
    let c = cut_is_chars p.form (bytes_of p.text) n pos h in
    let P : List Glyph → Type 0 = λ gs. IsEdge gs n in
    edge_border (bytes_of p.text) n u pos c.1 (subst P (piece_chars p c.0) edge)

pub piece_len : (p : Piece) (n : ℕ) → 0 < n → n < item_count p → n < length (bytes_of p.text)
piece_len p n pos h = let c = cut_is_chars p.form (bytes_of p.text) n pos h in c.1

-- ---- soundness

pub split_some : (o : Option Piece) (ps : List Piece) (p : Piece) → o ≡ Some p → All IsSoundPiece (first_piece o ++ ps) → IsSoundPiece p × All IsSoundPiece ps
split_some o ps p e h =
    let P : Option Piece → Type 0 = λ o. All IsSoundPiece (first_piece o ++ ps) in
    let a : All IsSoundPiece (p ∷ ps) = subst P e h in
    (a 0 p (omega arith), λ k d below. a (suc k) d (omega arith))

pub split_none : (o : Option Piece) (ps qs : List Piece) (p : Piece) → o ≡ None → ps ≡ p ∷ qs
    → All IsSoundPiece (first_piece o ++ ps) → IsSoundPiece p × All IsSoundPiece qs
split_none o ps qs p e is h =
    let P : Option Piece → Type 0 = λ o. All IsSoundPiece (first_piece o ++ ps) in
    let Q : List Piece → Type 0 = λ l. All IsSoundPiece l in
    let a : All IsSoundPiece (p ∷ qs) = subst Q is (subst P e h) in
    (a 0 p (omega arith), λ k d below. a (suc k) d (omega arith))
