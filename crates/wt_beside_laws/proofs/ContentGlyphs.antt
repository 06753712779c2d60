-- The items of a content as inline forms read them, sign by sign.
use Rattle.std.proofs.Common.{◌≡◌, ℕ, Bool, true, false, None, List, [], ◌∷◌, ◌++◌, map, refl, ap, ap₂, ◌∙◌, append_assoc}
use Rattle.std.specs.Prelude.{encode_utf8}
use Rattle.std.proofs.lemmas.List.{map-append}
use Rattle.wt_span.specs.Items.{Item, char}
use Rattle.wt_guards.specs.Content.{ContentSign, letter, thing}
use Rattle.wt_guards.specs.Letters.{is_escaped}
use Rattle.wt_guards.specs.Guards.{Setting, is_guarded}
use Rattle.wt_text_edit_laws.specs.LonePages.{page_chars}
use Rattle.wt_tiles.specs.declared.glyph.Glyph.{Glyph}
use Rattle.wt_tiles.specs.Glyphs.{glyph_of, byte_glyphs}
use Rattle.wt_beside_laws.specs.Content.{guard_items, letter_items, content_items}
use Rattle.wt_beside_laws.specs.Glyphs.{guard_glyphs, letter_glyphs, content_glyphs}
use Rattle.wt_beside_laws.specs.NodeItems.{node_items}

chars_are : (bs : List ℕ) → map glyph_of (page_chars bs) ≡ byte_glyphs bs
chars_are [] = refl
chars_are (b ∷ bs) = ap (λ gs. glyph_of (char None b) ∷ gs) (chars_are bs)

guard_is : (u : Bool) → map glyph_of (guard_items u) ≡ guard_glyphs u
guard_is true = refl
guard_is false = refl

letter_is : (e : Bool) (c : ℕ) → map glyph_of (letter_items e c) ≡ letter_glyphs e c
letter_is true c = refl
letter_is false c = chars_are (encode_utf8 c)

both_are : (xs ys : List Item) (gs hs : List Glyph) → map glyph_of xs ≡ gs → map glyph_of ys ≡ hs → map glyph_of (xs ++ ys) ≡ gs ++ hs
both_are xs ys gs hs e f = map-append glyph_of xs ys ∙ ap₂ (λ us vs. us ++ vs) e f

three_are : (xs ys zs rest : List Item) (gs hs us : List Glyph) → map glyph_of xs ≡ gs → map glyph_of ys ≡ hs → map glyph_of (zs ++ rest) ≡ us
    → map glyph_of ((xs ++ (ys ++ zs)) ++ rest) ≡ gs ++ (hs ++ us)
three_are xs ys zs rest gs hs us e f g =
    ap (map glyph_of) (append_assoc xs (ys ++ zs) rest ∙ ap (λ vs. xs ++ vs) (append_assoc ys zs rest))
    ∙ both_are xs (ys ++ (zs ++ rest)) gs (hs ++ us) e (both_are ys (zs ++ rest) hs us f g)

pub glyphs_are : (s : Setting) (before signs : List ContentSign) (rest : List Item)
    → map glyph_of (content_items s before signs ++ rest) ≡ content_glyphs s before signs (map glyph_of rest)
glyphs_are s before [] rest = both_are (guard_items (is_guarded s before [])) rest (guard_glyphs (is_guarded s before [])) (map glyph_of rest) (guard_is (is_guarded s before [])) refl
glyphs_are s before (letter c ∷ after) rest =
    let u = is_guarded s before (letter c ∷ after) in
    let e = is_escaped s.within s.place before c after in
    three_are (guard_items u) (letter_items e c) (content_items s (letter c ∷ before) after) rest (guard_glyphs u) (letter_glyphs e c)
    (content_glyphs s (letter c ∷ before) after (map glyph_of rest)) (guard_is u) (letter_is e c) (glyphs_are s (letter c ∷ before) after rest)
glyphs_are s before (thing t ∷ after) rest =
    let u = is_guarded s before (thing t ∷ after) in
    three_are (guard_items u) (node_items t.source) (content_items s (thing t ∷ before) after) rest (guard_glyphs u) (map glyph_of (node_items t.source))
    (content_glyphs s (thing t ∷ before) after (map glyph_of rest)) (guard_is u) refl (glyphs_are s (thing t ∷ before) after rest)
