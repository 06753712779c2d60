-- Where the items of a key and of attributes may be cut.
use Rattle.std.proofs.Common.{◌≡◌, ℕ, zero, suc, ◌+◌, ◌<◌, ◌==◌, ◌⊎◌, Bool, true, false, Option, Some, None, List, [], ◌∷◌, length, map, drop, refl, sym, ap, ◌∙◌, subst, cond, arith, inl, inr}
use Rattle.std.specs.Prelude.{codes, if◌then◌else◌}
use Rattle.std.proofs.Math.Numerals.{one-add}
use Rattle.std.proofs.lemmas.Bool.Decides.{nat_tests}
use Rattle.std.proofs.lemmas.List.{drop-map}
use Rattle.wt_span.specs.declared.form.Piece.{Piece}
use Rattle.wt_span.specs.Tags.{is_tag_byte}
use Rattle.wt_span.specs.Items.{items}
use Rattle.wt_tiles.specs.declared.glyph.Glyph.{Glyph}
use Rattle.wt_tiles.specs.declared.glyph.Glyph.TheVariants as glyph
use Rattle.wt_tiles.specs.declared.glyph.GlyphClass.TheVariants as class
use Rattle.wt_tiles.specs.Glyphs.{glyph_of, is_tag_glyph, run_len, begins}
use Rattle.wt_tiles.specs.Tags.{name_len}
use Rattle.wt_tiles.specs.Links.{has_pipe, to_close}
use Rattle.wt_tiles.specs.Edges.{is_low, low_at, IsEdge}
use Rattle.wt_tiles.proofs.Words.{first_low, low_drop, run_low, begins_low, edge_after, edge_at}
use Rattle.wt_tiles.proofs.LinkFits.{OptPlace, place_fits}
use Rattle.wt_context.specs.Heads.{name_end}

-- behind a `|`
pub pipe_edge : (gs hs : List Glyph) (n m : ℕ) → hs ≡ gs → m ≡ suc n → has_pipe n gs ≡ true → IsEdge hs m
pipe_edge gs hs n m e i h =
    let z : n + 0 ≡ n = omega arith in
    let low : low_at gs n ≡ true = sym (ap (low_at gs) z) ∙ sym (low_drop n 0 gs) ∙ first_low (class.Only 124) (drop n gs) (omega arith) h in
    edge_after hs n m i (ap (λ ks. low_at ks n) e ∙ low)

-- before a `]]`
close_by : (gs : List Glyph) (o : Option ℕ) (k : ℕ) → o ≡ Some k → OptPlace (begins (codes "]]")) gs o → low_at gs k ≡ true
close_by gs None k e f = cc
close_by gs (Some n) k e f =
    let z : n + 0 ≡ n = omega arith in
    let is : n ≡ k = same n k e in
    ap (low_at gs) (sym is) ∙ sym (ap (low_at gs) z) ∙ sym (low_drop n 0 gs) ∙ begins_low (codes "]]") (drop n gs) 0 refl f.0 (omega arith)
  where
    same : (a b : ℕ) → Some a ≡ Some b → a ≡ b
    same a b i = cc

pub close_edge : (gs hs : List Glyph) (k : ℕ) → hs ≡ gs → to_close gs ≡ Some k → IsEdge hs k
close_edge gs hs k e h = edge_at hs k k refl (ap (λ ks. low_at ks k) e ∙ close_by gs (to_close gs) k h (place_fits (begins (codes "]]"))
    (begins (codes "[[")) gs))

-- behind the name of a tag
end_is : (gs : List Glyph) → name_end gs ≡ (if name_len (drop 1 gs) == 0 then 0 else 1 + name_len (drop 1 gs))
unfolding name_end
end_is gs = refl

name_low : (v : Bool) (k : ℕ) (gs : List Glyph) → k < (if v then run_len class.Name gs else 0) → low_at gs k ≡ true
name_low true k gs l = run_low class.Name gs k tt l
name_low false k gs l = absurd (omega arith)

name_by : (gs : List Glyph) (m n : ℕ) → name_len (drop 1 gs) ≡ m → n ≡ (if m == 0 then 0 else 1 + m) → 0 < n → IsEdge gs n
name_by gs zero n f g p = absurd (omega (arith, g))
name_by gs (suc m) n f g p =
    let k : m < name_len (drop 1 gs) = omega (arith, f) in
    let z : (suc m == 0) ≡ false = grind (arith, nat_tests) in
    let i : n ≡ 1 + suc m = g ∙ ap (λ (t : Bool). if t then 0 else 1 + suc m) z in
    let low : low_at (drop 1 gs) m ≡ true = name_low _ m (drop 1 gs) k in
    edge_after gs (1 + m) n (omega (arith, i)) (sym (low_drop 1 m gs) ∙ low)

pub name_edge : (gs hs : List Glyph) (n : ℕ) → hs ≡ gs → n ≡ name_end gs → 0 < n → IsEdge hs n
name_edge gs hs n e i pos =
    let P : List Glyph → Type 0 = λ ks. IsEdge ks n in
    subst P (sym e) (name_by gs (name_len (drop 1 gs)) n refl (i ∙ end_is gs) pos)

-- behind what may stand in a tag
byte_low : (b : ℕ) → is_tag_byte b ≡ false → b < 128
byte_low b e = grind (arith, nat_tests)

tag_low : (g : Glyph) → is_tag_glyph g ≡ false → is_low g ≡ true
tag_low (glyph.Byte b) e = let l = byte_low b e in grind (arith, nat_tests)
tag_low (glyph.Entity c) e = cc
tag_low glyph.Atom e = refl
tag_low glyph.Mark e = cc

abbrev IsEnd : List Glyph → ℕ → Type 0
IsEnd gs n = (n ≡ length gs) ⊎ (low_at gs n ≡ true)

later_end : (g : Glyph) (gs : List Glyph) (n : ℕ) → IsEnd gs n → IsEnd (g ∷ gs) (suc n)
later_end g gs n (inl e) = inl (omega (arith, e))
later_end g gs n (inr e) = inr e

run_end_by : (t : Bool) (g : Glyph) (gs : List Glyph) (n : ℕ) → is_tag_glyph g ≡ t → IsEnd gs n → IsEnd (g ∷ gs) (cond t (1 + n) 0)
run_end_by true g gs n e h = subst (IsEnd (g ∷ gs)) (sym (one-add n)) (later_end g gs n h)
run_end_by false g gs n e h = inr (tag_low g e)

run_end : (gs : List Glyph) → IsEnd gs (run_len class.Tag gs)
run_end [] = inl refl
run_end (g ∷ gs) = run_end_by (is_tag_glyph g) g gs (run_len class.Tag gs) refl (run_end gs)

end_edge : (gs : List Glyph) (n : ℕ) → IsEnd gs n → IsEdge gs n
end_edge gs n (inl e) = inl e
end_edge gs n (inr e) = inr (inl e)

pub tag_edge : (gs hs : List Glyph) (k : ℕ) → hs ≡ gs → k ≡ run_len class.Tag gs → IsEdge hs k
tag_edge gs hs k e i =
    let P : List Glyph → Type 0 = λ ks. IsEdge ks k in
    let Q : ℕ → Type 0 = λ m. IsEdge gs m in
    subst P (sym e) (subst Q (sym i) (end_edge gs (run_len class.Tag gs) (run_end gs)))

-- ---- the items of what is left

pub same_glyphs : (ps qs : List Piece) (gs : List Glyph) → ps ≡ qs → gs ≡ map glyph_of (items qs) → map glyph_of (items ps) ≡ gs
same_glyphs ps qs gs e i = ap (λ rs. map glyph_of (items rs)) e ∙ sym i

pub later_glyphs : (ps qs rs : List Piece) (gs hs : List Glyph) (n : ℕ) → items rs ≡ drop n (items ps) → ps ≡ qs → gs ≡ map glyph_of (items qs)
    → hs ≡ drop n gs → map glyph_of (items rs) ≡ hs
later_glyphs ps qs rs gs hs n e f i h = ap (map glyph_of) e ∙ sym (drop-map glyph_of n (items ps)) ∙ ap (drop n) (same_glyphs ps qs gs f i) ∙ sym h
