-- A category's key stands behind the first `|`.
use Rattle.std.proofs.Common.{◌≡◌, ℕ, ◌+◌, suc, Bool, true, false, Option, Some, None, List, [], ◌∷◌, ◌++◌, length, take, drop, refl, sym, ap, ◌∙◌, arith, codes}
use Rattle.std.specs.Prelude.{◌==◌, ◌&&◌, ◌||◌, if◌then◌else◌, option_map}
use Rattle.std.proofs.lemmas.List.{map-append}
use Rattle.std.proofs.lemmas.List.Elements.{All-head, All-tail}
use Rattle.std.proofs.Math.Seq.{take-append_seam}
use Rattle.wt_span.specs.Items.{Item, char}
use Rattle.wt_tiles.specs.declared.glyph.Glyph.{Glyph}
use Rattle.wt_tiles.specs.declared.glyph.Glyph.TheVariants as glyph
use Rattle.wt_tiles.specs.declared.glyph.GlyphClass.TheVariants as class
use Rattle.wt_tiles.specs.Glyphs.{glyph_of, is_in, first_is, begins}
use Rattle.wt_tiles.specs.Links.{target_len, to_close, has_pipe}
use Rattle.wt_context.specs.Heads.{glyphs, or_none, target_size, visible_source, key_after, key}
use Rattle.wt_page_laws.specs.Addresses.{HasNo, KeyIsBehindFirstPipe}

-- how many items stand before the first sign that stops, where none of them stops or bars
place_by : (a b : Bool) (o : Option ℕ) → a ≡ false → b ≡ false → (if a then Some 0 else (if b then None else option_map (λ (n : ℕ). suc n) o)) ≡ option_map (λ (n : ℕ). suc n) o
place_by false false o e f = refl
place_by false true o e f = cc
place_by true b o e f = cc

both_false : (a b : Bool) (x : Bool) → a ≡ false → b ≡ false → (a || (b && x)) ≡ false
both_false false false x e f = refl
both_false false true x e f = cc
both_false true b x e f = cc

left_false : (b x : Bool) → b ≡ false → (b && x) ≡ false
left_false false x e = refl
left_false true x e = cc

target_is : (target : List Item) (gs : List Glyph) → HasNo 124 target → HasNo 91 target → HasNo 93 target
    → target_len (glyphs target ++ (glyph.Byte 124 ∷ gs)) ≡ Some (length target)
target_is [] gs p a z = refl
target_is (x ∷ xs) gs p a z =
    let rest = glyphs xs ++ (glyph.Byte 124 ∷ gs) in
    place_by (is_in (λ b. b == 124) (glyph_of x) || (is_in (λ b. b == 93) (glyph_of x) && begins (codes "]") rest))
    (is_in (λ b. b == 91) (glyph_of x) && begins (codes "[") rest) (target_len rest)
    (both_false (is_in (λ b. b == 124) (glyph_of x)) (is_in (λ b. b == 93) (glyph_of x)) (begins (codes "]") rest)
    (All-head (λ y. is_in (λ b. b == 124) (glyph_of y) ≡ false) x xs p) (All-head (λ y. is_in (λ b. b == 93) (glyph_of y) ≡ false) x xs z))
    (left_false (is_in (λ b. b == 91) (glyph_of x)) (begins (codes "[") rest) (All-head (λ y. is_in (λ b. b == 91) (glyph_of y) ≡ false) x xs a))
    ∙ ap (λ o. option_map (λ (n : ℕ). suc n) o) (target_is xs gs (All-tail (λ y. is_in (λ b. b == 124) (glyph_of y) ≡ false) x xs p)
    (All-tail (λ y. is_in (λ b. b == 91) (glyph_of y) ≡ false) x xs a) (All-tail (λ y. is_in (λ b. b == 93) (glyph_of y) ≡ false) x xs z))

close_is : (text : List Item) → HasNo 91 text → HasNo 93 text
    → to_close (glyphs text ++ (glyph.Byte 93 ∷ glyph.Byte 93 ∷ [])) ≡ Some (length text)
close_is [] a z = refl
close_is (x ∷ xs) a z =
    let rest = glyphs xs ++ (glyph.Byte 93 ∷ glyph.Byte 93 ∷ []) in
    place_by (is_in (λ b. b == 93) (glyph_of x) && begins (codes "]") rest) (is_in (λ b. b == 91) (glyph_of x) && begins (codes "[") rest)
    (to_close rest)
    (left_false (is_in (λ b. b == 93) (glyph_of x)) (begins (codes "]") rest) (All-head (λ y. is_in (λ b. b == 93) (glyph_of y) ≡ false) x xs z))
    (left_false (is_in (λ b. b == 91) (glyph_of x)) (begins (codes "[") rest) (All-head (λ y. is_in (λ b. b == 91) (glyph_of y) ≡ false) x xs a))
    ∙ ap (λ o. option_map (λ (n : ℕ). suc n) o) (close_is xs (All-tail (λ y. is_in (λ b. b == 91) (glyph_of y) ≡ false) x xs a)
    (All-tail (λ y. is_in (λ b. b == 93) (glyph_of y) ≡ false) x xs z))

-- the items behind a front
drop_front : {X : Type 0} (xs ys : List X) → drop (length xs) (xs ++ ys) ≡ ys
drop_front [] [] = refl
drop_front [] (y ∷ ys) = refl
drop_front (x ∷ xs) ys = drop_front xs ys

behind_two : {X : Type 0} (n : ℕ) (x y : X) (xs : List X) → drop (2 + n) (x ∷ y ∷ xs) ≡ drop n xs
behind_two n x y xs = let z : 2 + n ≡ suc (suc n) = omega arith in ap (λ k. drop k (x ∷ y ∷ xs)) z

behind_three : {X : Type 0} (x y z : X) (xs ys : List X) → drop (2 + length xs + 1) (x ∷ y ∷ (xs ++ (z ∷ ys))) ≡ ys
behind_three {X} x y z xs ys =
    let n : 2 + length xs + 1 ≡ suc (suc (suc (length xs))) = omega arith in
    ap (λ k. drop k (x ∷ y ∷ (xs ++ (z ∷ ys)))) n ∙ one_more xs
  where
    one_more : (us : List X) → drop (suc (length us)) (us ++ (z ∷ ys)) ≡ ys
    one_more [] = drop_front [] ys
    one_more (u ∷ us) = one_more us

whole : Option ℕ → List Item → List Item → List Item
whole o target text = char o 91 ∷ char o 91 ∷ (target ++ (char o 124 ∷ (text ++ (char o 93 ∷ char o 93 ∷ []))))

closing : List Glyph
closing = glyph.Byte 93 ∷ glyph.Byte 93 ∷ []

signs : (o : Option ℕ) (target text : List Item)
    → glyphs (whole o target text) ≡ glyph.Byte 91 ∷ glyph.Byte 91 ∷ (glyphs target ++ (glyph.Byte 124 ∷ (glyphs text ++ closing)))
unfolding whole closing
signs o target text =
    ap (λ gs. glyph.Byte 91 ∷ glyph.Byte 91 ∷ gs) (map-append glyph_of target (char o 124 ∷ (text ++ (char o 93 ∷ char o 93 ∷ [])))
    ∙ ap (λ gs. glyphs target ++ (glyph.Byte 124 ∷ gs)) (map-append glyph_of text (char o 93 ∷ char o 93 ∷ [])))

size_is : (o : Option ℕ) (target text : List Item) → HasNo 124 target → HasNo 91 target → HasNo 93 target
    → target_size (glyphs (whole o target text)) ≡ length target
unfolding target_size whole closing
size_is o target text p a z =
    ap (λ gs. or_none (target_len (drop 2 gs))) (signs o target text) ∙ ap or_none (target_is target (glyphs text ++ closing) p a z)

length_map : (xs : List Item) → length (glyphs xs) ≡ length xs
length_map [] = refl
length_map (x ∷ xs) = let l = length_map xs in omega arith

pipe_is : (o : Option ℕ) (target text : List Item) → has_pipe (2 + length target) (glyphs (whole o target text)) ≡ true
unfolding whole closing
pipe_is o target text =
    let gs = glyph.Byte 124 ∷ (glyphs text ++ closing) in
    ap (λ hs. first_is (class.Only 124) (drop (2 + length target) hs)) (signs o target text)
    ∙ ap (first_is (class.Only 124)) (behind_two (length target) (glyph.Byte 91) (glyph.Byte 91) (glyphs target ++ gs)
    ∙ ap (λ k. drop k (glyphs target ++ gs)) (sym (length_map target)) ∙ drop_front (glyphs target) gs)

close_at : (o : Option ℕ) (target text : List Item) → HasNo 91 text → HasNo 93 text
    → to_close (drop (2 + length target + 1) (glyphs (whole o target text))) ≡ Some (length text)
unfolding whole closing
close_at o target text a z =
    ap (λ gs. to_close (drop (2 + length target + 1) gs)) (signs o target text)
    ∙ ap to_close (ap (λ k. drop (2 + k + 1) (glyph.Byte 91 ∷ glyph.Byte 91 ∷ (glyphs target ++ (glyph.Byte 124 ∷ (glyphs text ++ closing)))))
    (sym (length_map target))
    ∙ behind_three (glyph.Byte 91) (glyph.Byte 91) (glyph.Byte 124) (glyphs target) (glyphs text ++ closing))
    ∙ close_is text a z

key_at : (o : Option ℕ) (target text : List Item) → HasNo 91 text → HasNo 93 text
    → key_after (2 + length target) (whole o target text) ≡ Some (visible_source text)
unfolding key_after whole
key_at o target text a z =
    let ends = char o 93 ∷ char o 93 ∷ [] in
    ap (λ m. option_map (λ (k : ℕ). visible_source (take k (drop (2 + length target + 1) (whole o target text)))) m) (close_at o target text a z)
    ∙ ap (λ xs. Some (visible_source (take (length text) xs))) (behind_three (char o 91) (char o 91) (char o 124) target (text ++ ends))
    ∙ ap (λ xs. Some (visible_source xs)) (take-append_seam text ends)

pub key_is : (o : Option ℕ) (target text : List Item) → KeyIsBehindFirstPipe o target text
unfolding key whole
key_is o target text p a z b y =
    ap (λ (n : ℕ). if has_pipe (2 + n) (glyphs (whole o target text)) then key_after (2 + n) (whole o target text) else None) (size_is o target text p a z)
    ∙ ap (λ (t : Bool). if t then key_after (2 + length target) (whole o target text) else None) (pipe_is o target text)
    ∙ key_at o target text b y
