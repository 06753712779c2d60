-- The tiles of what a call gives: of each character and form by itself, whatever is read behind them.
use Rattle.std.proofs.Common.{◌≡◌, inl, inr, ℕ, ◌==◌, Bool, true, false, not, None, List, [], ◌∷◌, ◌++◌, length, map, refl, sym, ap, ◌∙◌, subst, append_assoc}
use Rattle.std.specs.Prelude.{◌&&◌, ◌||◌, codes}
use Rattle.std.specs.Char.{to_ascii_lowercase}
use Rattle.std.proofs.lemmas.Bool.Decides.{Decides-eqb}
use Rattle.std.proofs.lemmas.List.{map-append}
use Rattle.wt_span.specs.Items.{Item}
use Rattle.wt_guards.specs.declared.role.Role.{Role}
use Rattle.wt_typed_blocks.proofs.TextReads.{equal_or}
use Rattle.wt_tiles.specs.declared.glyph.Glyph.{Glyph}
use Rattle.wt_tiles.specs.declared.glyph.Glyph.TheVariants as glyph
use Rattle.wt_tiles.specs.Contexts.{in_line}
use Rattle.wt_tiles.specs.Glyphs.{glyph_of, is_in, begins_like}
use Rattle.wt_tiles.specs.Tiles.{Cut, form_at, cuts, switch_at}
use Rattle.wt_tiles.specs.Links.{link_at}
use Rattle.wt_tiles.specs.Urls.{scheme_len, url_items, ext_link_of, ext_link_at, is_word}
use Rattle.wt_beside_laws.specs.Glyphs.{AvoidsUrls}
use Rattle.wt_beside_laws.specs.Cuts.{add_node, own_form, ends_word}
use Rattle.wt_beside_laws.specs.Given.{is_half_sign, GivenSign, character, form, given_items, given_glyphs, given_cut, is_given_byte, BeginsUnbracketed, IsGivenByte, BeginsApart, MayBeFirst, AreGivenSigns, given_last, LastMay}
use Rattle.wt_beside_laws.specs.Nodes.{MayFollow}
use Rattle.wt_beside_laws.proofs.ContentTiles.{one_more, none_more, Follows, node_follows}
use Rattle.wt_beside_laws.proofs.NodesBegin.{node_urls}
use Rattle.wt_beside_laws.proofs.NodesStand.{node_stands}
use Rattle.wt_beside_laws.proofs.OpenTags.{closed_open}
use Rattle.wt_beside_laws.proofs.TypedForms.{one_underscore, tag_other, switch_other, link_none, external_none, bare_none, all_none}
use Rattle.wt_beside_laws.proofs.Groups.Schemes.{is_more, reaches, no_scheme, reach_by, node_reaches}
use Rattle.wt_beside_laws.proofs.Groups.HalfSigns.{lower_colon, half_underscore, half_colon, apart_slash, apart_underscore}

pub given_are : (j : ℕ) (signs : List GivenSign) → map glyph_of (given_items j signs) ≡ given_glyphs signs
given_are j [] = refl
given_are j (character b ∷ signs) = ap (λ gs. glyph.Byte b ∷ gs) (given_are j signs)
given_are j (form r own ∷ signs) = map-append glyph_of own (given_items j signs) ∙ ap (λ gs. map glyph_of own ++ gs) (given_are j signs)

-- ---- bytes

three_false : (u v w : Bool) → not (u || (v || w)) ≡ true → (u ≡ false) × (v ≡ false) × (w ≡ false)
three_false true v w e = cc
three_false false true w e = cc
three_false false false true e = cc
three_false false false false e = (refl, refl, refl)

pub given_byte : (b : ℕ) → is_given_byte b ≡ true → ((b == 10) ≡ false) × ((b == 60) ≡ false) × ((b == 91) ≡ false)
given_byte b e = three_false (b == 10) (b == 60) (b == 91) e

-- ---- no URL goes on over them

no_slashes : (gs more : List Glyph) → BeginsApart gs → begins_like (codes "//") (gs ++ more) ≡ false
no_slashes [] more h = absurd h
no_slashes (g ∷ gs) more h = ap (λ (v : Bool). v && begins_like (codes "/") (gs ++ more)) (apart_slash g h)

pub given_reaches : (word : Bool) (signs : List GivenSign) (more : List Glyph) → AreGivenSigns word signs → reaches more ≡ false
    → reaches (given_glyphs signs ++ more) ≡ false
given_reaches word [] more h e = e
given_reaches word (character b ∷ signs) more h e =
    let gs : List Glyph = given_glyphs signs ++ more in
    reach_by (to_ascii_lowercase b == 58) (is_more (glyph.Byte b)) (reaches gs) (begins_like (codes "//") gs)
    (λ i. no_slashes (given_glyphs signs) more (h.1 (half_colon b (lower_colon b i)))) (given_reaches (is_word b) signs more h.2 e)
given_reaches word (form r own ∷ signs) more h e =
    ap reaches (append_assoc (map glyph_of own) (given_glyphs signs) more)
    ∙ node_reaches (map glyph_of own) (given_glyphs signs ++ more) (node_urls r (map glyph_of own) h.0.node)

-- ---- no form begins at a character

byte_switch : (b : ℕ) (gs more : List Glyph) → (is_half_sign b ≡ true → BeginsApart gs) → switch_at (glyph.Byte b ∷ (gs ++ more)) ≡ None
byte_switch b gs more h = elim (equal_or b 95) [
  | inl i ↦ lone b gs i (h (half_underscore b ((Decides-eqb b 95).1 i)))
  | inr n ↦ switch_other b (gs ++ more) n
]
  where
    lone : (b : ℕ) (gs : List Glyph) → b ≡ 95 → BeginsApart gs → switch_at (glyph.Byte b ∷ (gs ++ more)) ≡ None
    lone b [] i h = absurd h
    lone b (g ∷ gs) i h =
        let P : ℕ → Type 0 = λ k. switch_at (glyph.Byte k ∷ (g ∷ (gs ++ more))) ≡ None in
        subst P (sym i) (one_underscore g (gs ++ more) (apart_underscore g h))

byte_none : (a : Bool) (b : ℕ) (gs more : List Glyph) → is_given_byte b ≡ true → (is_half_sign b ≡ true → BeginsApart gs) → reaches (gs ++ more) ≡ false
    → form_at in_line a (glyph.Byte b ∷ (gs ++ more)) ≡ None
byte_none a b gs more g h e =
    let all : List Glyph = gs ++ more in
    let own = given_byte b g in
    all_none in_line a (glyph.Byte b ∷ all) (link_none b all own.2) (external_none b all own.2)
    (bare_none a (glyph.Byte b ∷ all) (no_scheme (glyph.Byte b) all e)) (tag_other b all own.1) (byte_switch b gs more h)

-- a `[` before another character
one_bracket : (c : ℕ) (gs : List Glyph) → (c == 91) ≡ false → link_at (glyph.Byte 91 ∷ glyph.Byte c ∷ gs) ≡ None
unfolding link_at
one_bracket c gs e = rw e refl

text_bracket : (g : Glyph) (gs : List Glyph) → scheme_len (g ∷ gs) ≡ 0 → ext_link_at (glyph.Byte 91 ∷ g ∷ gs) ≡ None
unfolding ext_link_at
text_bracket g gs e = ap (λ (n : ℕ). ext_link_of n (length (url_items (g ∷ gs))) (glyph.Byte 91 ∷ g ∷ gs)) e

bracket_none : (a : Bool) (b : ℕ) (word : Bool) (signs : List GivenSign) (more : List Glyph) → b ≡ 91 → BeginsUnbracketed signs → AreGivenSigns word signs
    → reaches more ≡ false → form_at in_line a (glyph.Byte b ∷ (given_glyphs signs ++ more)) ≡ None
bracket_none a b word [] more i k h e = absurd k
bracket_none a b word (form r own ∷ signs) more i k h e = absurd k
bracket_none a b word (character c ∷ signs) more i k h e =
    let gs : List Glyph = given_glyphs signs ++ more in
    let all : List Glyph = glyph.Byte 91 ∷ glyph.Byte c ∷ gs in
    let P : ℕ → Type 0 = λ (x : ℕ). form_at in_line a (glyph.Byte x ∷ glyph.Byte c ∷ gs) ≡ None in
    let later : reaches gs ≡ false = given_reaches (is_word c) signs more h.2 e in
    let both : reaches (glyph.Byte c ∷ gs) ≡ false = given_reaches word (character c ∷ signs) more h e in
    subst P (sym i)
    (all_none in_line a all (one_bracket c gs k) (text_bracket (glyph.Byte c) gs (no_scheme (glyph.Byte c) gs later))
    (bare_none a all (no_scheme (glyph.Byte 91) (glyph.Byte c ∷ gs) both)) (tag_other 91 (glyph.Byte c ∷ gs) refl) (switch_other 91 (glyph.Byte c ∷ gs) refl))

given_none : (a : Bool) (b : ℕ) (signs : List GivenSign) (more : List Glyph) → IsGivenByte b signs → (is_half_sign b ≡ true → BeginsApart (given_glyphs signs))
    → AreGivenSigns (is_word b) signs → reaches more ≡ false → form_at in_line a (glyph.Byte b ∷ (given_glyphs signs ++ more)) ≡ None
given_none a b signs more (inl g) f h e = byte_none a b (given_glyphs signs) more g f (given_reaches (is_word b) signs more h e)
given_none a b signs more (inr k) f h e = bracket_none a b (is_word b) signs more k.0 k.1 h e

-- ---- what follows a form

pub some_glyph : (word : Bool) (sign : GivenSign) (signs : List GivenSign) → AreGivenSigns word (sign ∷ signs) → given_glyphs (sign ∷ signs) ≡ [] → ⊥
some_glyph word (character b) signs h e = cc
some_glyph word (form r own) signs h e = none (map glyph_of own) (node_urls r (map glyph_of own) h.0.node) e
  where
    none : (gs : List Glyph) → AvoidsUrls gs → gs ++ given_glyphs signs ≡ [] → ⊥
    none [] k e = k
    none (g ∷ gs) k e = cc

by_first : (r : Role) (own gs more : List Glyph) → MayBeFirst r gs → (gs ≡ [] → MayFollow r own more) → MayFollow r own (gs ++ more)
by_first r own [] more m f = f refl
by_first r own (g ∷ gs) more m f = inl m

form_may : (word : Bool) (r : Role) (own : List Item) (signs : List GivenSign) (more : List Glyph) → AreGivenSigns word signs
    → MayBeFirst r (given_glyphs signs) → LastMay (form r own ∷ signs) more → MayFollow r (map glyph_of own) (given_glyphs signs ++ more)
form_may word r own [] more h m l = l
form_may word r own (sign ∷ signs) more h m l =
    by_first r (map glyph_of own) (given_glyphs (sign ∷ signs)) more m (λ e. absurd (some_glyph word sign signs h e))

later_may : (r : Role) (own : List Item) (signs : List GivenSign) (more : List Glyph) → LastMay (form r own ∷ signs) more → LastMay signs more
later_may r own [] more l = tt
later_may r own (sign ∷ signs) more l = l

-- ---- what is last

ends_both : (word : Bool) (gs hs : List Glyph) → ends_word word (gs ++ hs) ≡ ends_word (ends_word word gs) hs
ends_both word [] hs = refl
ends_both word (g ∷ gs) hs = ends_both (is_in is_word g) gs hs

ends_some : (word : Bool) (gs : List Glyph) → AvoidsUrls gs → ends_word false gs ≡ ends_word word gs
ends_some word [] h = absurd h
ends_some word (g ∷ gs) h = refl

pub last_is : (before word : Bool) (signs : List GivenSign) → AreGivenSigns before signs → given_last word signs ≡ ends_word word (given_glyphs signs)
last_is before word [] h = refl
last_is before word (character b ∷ signs) h = last_is (is_word b) (is_word b) signs h.2
last_is before word (form r own ∷ signs) h =
    let gs : List Glyph = map glyph_of own in
    let after : Bool = ends_word false gs in
    last_is after after signs h.1
    ∙ ap (λ (v : Bool). ends_word v (given_glyphs signs)) (ends_some word gs (node_urls r gs h.0.node))
    ∙ sym (ends_both word gs (given_glyphs signs))

-- ---- all of them

pub given_follow : (word : Bool) (signs : List GivenSign) (more : List Glyph) (c : Cut) → AreGivenSigns word signs → LastMay signs more → reaches more ≡ false
    → Follows in_line (given_last word signs) more c → Follows in_line word (given_glyphs signs ++ more) (given_cut signs c)
given_follow word [] more c h l e f = f
given_follow word (character b ∷ signs) more c h l e f =
    let later : Follows in_line (is_word b) (given_glyphs signs ++ more) (given_cut signs c) = given_follow (is_word b) signs more c h.2 l e f in
    λ a i. one_more in_line a b (given_glyphs signs ++ more) 0 (given_cut signs c)
    (given_none a b signs more h.0 h.1 h.2 e) (later (is_word b) (λ z. z) ∙ none_more (given_cut signs c))
given_follow word (form r own ∷ signs) more c h l e f =
    let gs : List Glyph = map glyph_of own in
    let behind : List Glyph = given_glyphs signs ++ more in
    let after : Bool = ends_word false gs in
    subst (λ hs. Follows in_line word hs (add_node (own_form in_line gs) (length gs) (given_cut signs c))) (sym (append_assoc gs (given_glyphs signs) more))
    (node_follows in_line word (own_form in_line gs) gs behind (given_cut signs c)
    (node_stands r word gs behind h.0.node (form_may after r own signs more h.1 h.0.follows l) h.0.leads (closed_open gs behind h.0.closed))
    (given_follow after signs more c h.1 (later_may r own signs more l) e f))

-- with nothing behind them
pub none_last : (signs : List GivenSign) → LastMay signs []
none_last [] = tt
none_last (character b ∷ signs) = none_last signs
none_last (form r own ∷ []) = tt
none_last (form r own ∷ sign ∷ signs) = none_last (sign ∷ signs)

pub given_alone : (signs : List GivenSign) → AreGivenSigns false signs → cuts in_line false 0 (given_glyphs signs ++ []) ≡ given_cut signs (0, [])
given_alone signs h = given_follow false signs [] (0, []) h (none_last signs) refl (λ a i. refl) false (λ z. z)
