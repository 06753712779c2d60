-- With what nodes that stay end: no letter, digit or `_`, but for links to pages, bare URLs and switches.
use Rattle.std.proofs.Common.{arith, ◌≡◌, ℕ, zero, suc, ◌+◌, ◌-◌, ◌<◌, ◌==◌, Bool, true, false, Option, Some, None, List, [], ◌∷◌, ◌++◌, length, take, drop, refl, sym, ap, ◌∙◌, subst, inl, inr, ◌⊎◌, nat_lt}
use Rattle.std.specs.Prelude.{◌&&◌, codes, option_map, if◌then◌else◌}
use Rattle.std.specs.Option.{option_or}
use Rattle.std.proofs.lemmas.List.{length-drop, drop-drop, take-append-drop}
use Rattle.wt_tiles.specs.declared.glyph.Glyph.{Glyph}
use Rattle.wt_tiles.specs.declared.glyph.Glyph.TheVariants as glyph
use Rattle.wt_tiles.specs.declared.glyph.GlyphClass.TheVariants as class
use Rattle.wt_tiles.specs.declared.shape.Shape.{Shape}
use Rattle.wt_tiles.specs.declared.tag.TagShape.TheVariants.{Closing}
use Rattle.wt_tiles.specs.declared.tag.Tag.{Tag}
use Rattle.wt_tiles.specs.declared.target.LinkKind.{LinkKind}
use Rattle.wt_tiles.specs.declared.target.LinkKind.TheVariants.{Page, Category, Media}
use Rattle.wt_tiles.specs.declared.target.Target.{Target}
use Rattle.wt_tiles.specs.Glyphs.{in_class, is_in, first_is, run_len, begins}
use Rattle.wt_tiles.specs.Links.{target_of, kind_of, target_len, to_close, inner_len, has_pipe, head_len, link_shape, link_with, link_to, link_by, link_in, link_at}
use Rattle.wt_tiles.specs.Partners.{DepthChange, Up, Down, Level, number, tag_turn, by_tag, partner, balanced}
use Rattle.wt_tiles.specs.Tags.{name_len, name_of, tag_of, is_inside, shape_of, tag_after, opening_tag, closing_tag, tag_at}
use Rattle.wt_tiles.specs.Tiles.{size, len_of}
use Rattle.wt_tiles.specs.Urls.{scheme_len, url_items, ext_shape, ext_link_after, ext_link_of, ext_link_at, is_word}
use Rattle.wt_tiles.proofs.LinkFits.{OptPlace, place_fits, OptRest, balanced_fits}
use Rattle.wt_tiles.proofs.TagFits.{name_le}
use Rattle.wt_beside_laws.specs.Cuts.{ends_word}
use Rattle.wt_beside_laws.specs.Nodes.{IsExternalNode, IsCategoryNode, IsMediaNode, IsPair, IsTagNode, IsOneLexeme}
use Rattle.wt_beside_laws.specs.Tiles.{IsCategoryKind, IsMediaKind, LeadsBy, AimsBy}
use Rattle.wt_beside_laws.proofs.LinkFronts.{ends_at}
use Rattle.wt_beside_laws.proofs.LinkTiles.{if_some, with_made, some_same}
use Rattle.wt_beside_laws.proofs.PairTiles.{HasTag, partner_tag, same_list}
use Rattle.wt_beside_laws.proofs.TagFronts.{byte_is, made_len, taken, after_len}
use Rattle.wt_beside_laws.proofs.TagTiles.{if_tag, both_true}
use Rattle.wt_beside_laws.proofs.UrlFronts.{text_closes}
use Rattle.wt_beside_laws.proofs.UrlTiles.{is_after, both_some}

-- ---- the last item

-- The last of these items is this character.
abbrev pub EndsWith : ℕ → List Glyph → Type 0
EndsWith c gs = (k : ℕ) × (suc k ≡ length gs) × (first_is (class.Only c) (drop k gs) ≡ true)

one_is : (c : ℕ) (a : Bool) (g : Glyph) → is_word c ≡ false → in_class (class.Only c) g ≡ true → is_in is_word g ≡ false
one_is c a g w e = let is : g ≡ glyph.Byte c = byte_is c g e in subst (λ (x : Glyph). is_in is_word x ≡ false) (sym is) w

last_is : (c k : ℕ) (a : Bool) (gs : List Glyph) → is_word c ≡ false → suc k ≡ length gs → first_is (class.Only c) (drop k gs) ≡ true → ends_word a gs ≡ false
last_is c k a [] w e f = absurd (omega (arith, e))
last_is c zero a (g ∷ []) w e f = one_is c a g w f
last_is c zero a (g ∷ h ∷ gs) w e f = absurd (omega (arith, e))
last_is c (suc k) a (g ∷ gs) w e f = last_is c k (is_in is_word g) gs w (omega (arith, e)) f

ends_so : (c : ℕ) (a : Bool) (gs : List Glyph) → is_word c ≡ false → EndsWith c gs → ends_word a gs ≡ false
ends_so c a gs w e = last_is c e.0 a gs w e.1 e.2

-- ---- external links

pub external_ends : (g : Glyph) (inside : List Glyph) (w : Shape) → ext_link_at (g ∷ inside) ≡ Some w → size w ≡ length (g ∷ inside) → EndsWith 93 (g ∷ inside)
unfolding ext_link_at
external_ends g inside w e whole =
    let s : ℕ = scheme_len inside in
    let m : ℕ = length (url_items inside) in
    let n : ℕ = 1 + s + m in
    let own : List Glyph = g ∷ inside in
    let f = if_some (in_class (class.Only 91) g) (ext_link_of s m own) w e in
    let h = both_some s m (ext_link_after n own) w f.1 in
    let a = is_after n own w h.0 in
    let b : ℕ = run_len class.Blank (drop n own) in
    let large : size (ext_shape (n + b) a.k) ≡ length own = ap size a.is ∙ whole in
    let close : first_is (class.Only 93) (drop a.k (drop (n + b) own)) ≡ true = text_closes (drop (n + b) own) a.k a.text in
    (n + b + a.k, omega (arith, large), ap (first_is (class.Only 93)) (sym (drop-drop a.k (n + b) own)) ∙ close)

-- ---- links to categories and media

-- `]]` is last
abbrev EndsLink : List Glyph → Type 0
EndsLink gs = (k : ℕ) × (k + 2 ≡ length gs) × (begins (codes "]]") (drop k gs) ≡ true)

pub second_is : (k : ℕ) (gs : List Glyph) → begins (codes "]]") (drop k gs) ≡ true → first_is (class.Only 93) (drop (suc k) gs) ≡ true
second_is k [] e = by_none k e
  where
    by_none : (j : ℕ) → begins (codes "]]") (drop j []) ≡ true → first_is (class.Only 93) (drop (suc j) []) ≡ true
    by_none zero z = cc
    by_none (suc j) z = cc
second_is zero (g ∷ []) e =
    let c = both_true (is_in (λ (b : ℕ). b == 93) g) false e in
    let no : false ≡ true = c.1 in cc
second_is zero (g ∷ h ∷ gs) e =
    let c = both_true (is_in (λ (b : ℕ). b == 93) g) (is_in (λ (b : ℕ). b == 93) h && true) e in
    (both_true (is_in (λ (b : ℕ). b == 93) h) true c.1).0
second_is (suc k) (g ∷ gs) e = second_is k gs e

closes_is : (o : Option ℕ) (gs : List Glyph) (k : ℕ) → OptPlace (begins (codes "]]")) gs o → o ≡ Some k → begins (codes "]]") (drop k gs) ≡ true
closes_is o gs k f e = let r : OptPlace (begins (codes "]]")) gs (Some k) = subst (λ (p : Option ℕ). OptPlace (begins (codes "]]")) gs p) e f in r.0

-- the `]]` that a link has
abbrev pub ClosesAt : List Glyph → ℕ → Type 0
ClosesAt gs i = begins (codes "]]") (drop i gs) ≡ true

close_by : (n i : ℕ) (gs : List Glyph) (o : Option ℕ) → to_close (drop n gs) ≡ o → option_map (λ (j : ℕ). n + j) o ≡ Some i → ClosesAt gs i
close_by n i gs None e f = cc
close_by n i gs (Some j) e f =
    let sum : i ≡ n + j = some_same (n + j) i f in
    let at : begins (codes "]]") (drop j (drop n gs)) ≡ true = closes_is (to_close (drop n gs)) (drop n gs) j (place_fits (begins (codes "]]")) (begins (codes "[[")) (drop n gs)) e in
    ap (λ (k : ℕ). begins (codes "]]") (drop k gs)) sum ∙ ap (begins (codes "]]")) (sym (drop-drop j n gs)) ∙ at

media_by : (i : ℕ) (gs : List Glyph) (o : Option (List Glyph)) → OptRest gs o → option_map (λ (ys : List Glyph). length gs - length ys) o ≡ Some i → ClosesAt gs i
media_by i gs None f e = cc
media_by i gs (Some ys) f e =
    let is : i ≡ length gs - length ys = some_same (length gs - length ys) i e in
    let cut : length (drop f.1 gs) ≡ length gs - f.1 = length-drop f.1 gs in
    let all : length (drop f.1 gs) ≡ length ys = ap length f.2 in
    let lt : f.1 < length gs = f.3 in
    let at : i ≡ f.1 = omega (arith, is, cut, all, lt) in
    ap (λ (j : ℕ). begins (codes "]]") (drop j gs)) at ∙ ap (begins (codes "]]")) f.2 ∙ ends_at ys f.0

pub inner_by : (k : LinkKind) (n i : ℕ) (gs : List Glyph) → inner_len k n gs ≡ Some i → ClosesAt gs i
inner_by Page n i gs e = close_by n i gs (to_close (drop n gs)) refl e
inner_by Category n i gs e = close_by n i gs (to_close (drop n gs)) refl e
inner_by Media n i gs e = media_by i gs (balanced 0 0 gs) (balanced_fits 0 0 gs) e

-- no letter joins it
abbrev IsOther : LinkKind → Type 0
IsOther Page = ⊥
IsOther Category = Unit {0}
IsOther Media = Unit {0}

other_size : (k : LinkKind) (head i : ℕ) (gs : List Glyph) → IsOther k → size (link_shape k head i gs) ≡ i + 4
other_size Page head i gs h = absurd h
other_size Category head i gs h = omega arith
other_size Media head i gs h = omega arith

with_ends : (t : Target) (n : ℕ) (o : Option ℕ) (gs : List Glyph) (w : Shape) → IsOther (kind_of t) → inner_len (kind_of t) n gs ≡ o → link_with t n o gs ≡ Some w
    → size w ≡ 2 + length gs → EndsLink gs
with_ends t n None gs w h i e whole = cc
with_ends t n (Some j) gs w h i e whole =
    let m = with_made (has_pipe n gs && j == n + 1) (link_shape (kind_of t) (head_len t.colon n gs) j gs) w e in
    let large : size (link_shape (kind_of t) (head_len t.colon n gs) j gs) ≡ 2 + length gs = ap size m.1 ∙ whole in
    let is : size (link_shape (kind_of t) (head_len t.colon n gs) j gs) ≡ j + 4 = other_size (kind_of t) (head_len t.colon n gs) j gs h in
    (j, omega (arith, large, is), inner_by (kind_of t) n j gs i)

to_ends : (o : Option Target) (n : ℕ) (gs : List Glyph) (w : Shape) → LeadsBy IsOther o → link_to o n gs ≡ Some w → size w ≡ 2 + length gs → EndsLink gs
to_ends None n gs w h e whole = cc
to_ends (Some t) n gs w h e whole = with_ends t n (inner_len (kind_of t) n gs) gs w h refl e whole

by_ends : (o : Option ℕ) (gs : List Glyph) (w : Shape) → AimsBy IsOther o gs → link_by o gs ≡ Some w → size w ≡ 2 + length gs → EndsLink gs
by_ends None gs w h e whole = cc
by_ends (Some n) gs w h e whole = to_ends (target_of (take n gs)) n gs w h e whole

in_ends : (gs : List Glyph) (w : Shape) → AimsBy IsOther (target_len gs) gs → link_in gs ≡ Some w → size w ≡ 2 + length gs → EndsLink gs
unfolding link_in
in_ends gs w h e whole = by_ends (target_len gs) gs w h e whole

pub inside_of : (gs : List Glyph) (w : Shape) → link_at (glyph.Byte 91 ∷ glyph.Byte 91 ∷ gs) ≡ Some w → link_in gs ≡ Some w
unfolding link_at
inside_of gs w e = e

pub other_ends : (inside : List Glyph) (w : Shape) → AimsBy IsOther (target_len inside) inside → link_at (glyph.Byte 91 ∷ glyph.Byte 91 ∷ inside) ≡ Some w
    → size w ≡ 2 + length inside → EndsWith 93 (glyph.Byte 91 ∷ glyph.Byte 91 ∷ inside)
other_ends inside w h e whole =
    let f = in_ends inside w h (inside_of inside w e) whole in
    let at : f.0 + 2 ≡ length inside = f.1 in
    (suc (suc (suc f.0)), omega (arith, at), second_is f.0 inside f.2)

leads_other : (P : LinkKind → Type 0) → ((k : LinkKind) → P k → IsOther k) → (o : Option Target) → LeadsBy P o → LeadsBy IsOther o
leads_other P f None h = tt
leads_other P f (Some t) h = f (kind_of t) h

pub aims_other : (P : LinkKind → Type 0) → ((k : LinkKind) → P k → IsOther k) → (o : Option ℕ) (gs : List Glyph) → AimsBy P o gs → AimsBy IsOther o gs
aims_other P f None gs h = tt
aims_other P f (Some n) gs h = leads_other P f (target_of (take n gs)) h

pub category_other : (k : LinkKind) → IsCategoryKind k → IsOther k
category_other Page h = absurd h
category_other Category h = tt
category_other Media h = absurd h

pub media_other : (k : LinkKind) → IsMediaKind k → IsOther k
media_other Page h = absurd h
media_other Category h = absurd h
media_other Media h = tt

category_ends : (a : Bool) (own : List Glyph) → IsCategoryNode own → ends_word a own ≡ false
category_ends a own n =
    let whole : size n.shape ≡ 2 + length n.inside = n.whole ∙ ap length n.is ∙ omega arith in
    subst (λ gs. ends_word a gs ≡ false) (sym n.is)
    (ends_so 93 a (glyph.Byte 91 ∷ glyph.Byte 91 ∷ n.inside) refl
    (other_ends n.inside n.shape (aims_other IsCategoryKind category_other (target_len n.inside) n.inside n.category) n.link whole))

media_ends : (a : Bool) (own : List Glyph) → IsMediaNode own → ends_word a own ≡ false
media_ends a own n =
    let whole : size n.shape ≡ 2 + length n.inside = n.whole ∙ ap length n.is ∙ omega arith in
    let aims : AimsBy IsMediaKind (target_len n.inside) n.inside =
    subst (λ (o : Option ℕ). AimsBy IsMediaKind o n.inside) (sym n.media.target) n.media.kind in
    subst (λ gs. ends_word a gs ≡ false) (sym n.is)
    (ends_so 93 a (glyph.Byte 91 ∷ glyph.Byte 91 ∷ n.inside) refl
    (other_ends n.inside n.shape (aims_other IsMediaKind media_other (target_len n.inside) n.inside aims) n.link whole))

pub external_last : (a : Bool) (own : List Glyph) → IsExternalNode own → ends_word a own ≡ false
external_last a own n =
    subst (λ gs. ends_word a gs ≡ false) (sym n.is)
    (ends_so 93 a (glyph.Byte 91 ∷ n.inside) refl (external_ends (glyph.Byte 91) n.inside n.shape n.link (n.whole ∙ ap length n.is)))

-- ---- tags

after_ends : (name us : List Glyph) (t : Tag) → tag_after name us ≡ Some t → first_is (class.Only 62) (drop (run_len class.Tag us) us) ≡ true
unfolding tag_after
after_ends name us t e =
    let r : ℕ = run_len class.Tag us in
    let m = if_tag (first_is (class.Only 62) (drop r us) && is_inside (take r us)) (tag_of (shape_of (take r us)) (2 + length name + length (take r us)) (name_of name)) t e in
    (both_true (first_is (class.Only 62) (drop r us)) (is_inside (take r us)) m.0).0

opening_ends : (g : Glyph) (hs : List Glyph) (t : Tag) → opening_tag (g ∷ hs) ≡ Some t → t.len ≡ length (g ∷ hs) → EndsWith 62 (g ∷ hs)
unfolding opening_tag
opening_ends g hs t e whole =
    let n : ℕ = name_len hs in
    let us : List Glyph = drop (1 + n) (g ∷ hs) in
    let m = if_tag (in_class (class.Only 60) g && nat_lt 0 n) (tag_after (take n hs) us) t e in
    let long : t.len ≡ 2 + length (take n hs) + run_len class.Tag us = after_len (take n hs) us t m.1 in
    let own : length (take n hs) ≡ n = taken n hs (name_le hs) in
    let last : first_is (class.Only 62) (drop (run_len class.Tag us) us) ≡ true = after_ends (take n hs) us t m.1 in
    (1 + n + run_len class.Tag us, omega (arith, whole, long, own), ap (first_is (class.Only 62)) (sym (drop-drop (run_len class.Tag us) (1 + n) (g ∷ hs))) ∙ last)

closing_ends : (a b : Glyph) (hs : List Glyph) (t : Tag) → closing_tag (a ∷ b ∷ hs) ≡ Some t → t.len ≡ 2 + length hs → EndsWith 62 (a ∷ b ∷ hs)
unfolding closing_tag
closing_ends a b hs t e whole =
    let gs : List Glyph = a ∷ b ∷ hs in
    let n : ℕ = name_len hs in
    let k : ℕ = run_len class.Blank (drop (2 + n) gs) in
    let m = if_tag (begins (codes "</") gs && (nat_lt 0 n && first_is (class.Only 62) (drop (2 + n + k) gs))) (tag_of Closing (3 + n + k) (name_of (take n hs))) t e in
    let c = both_true (begins (codes "</") gs) (nat_lt 0 n && first_is (class.Only 62) (drop (2 + n + k) gs)) m.0 in
    let d = both_true (nat_lt 0 n) (first_is (class.Only 62) (drop (2 + n + k) gs)) c.1 in
    let long : t.len ≡ 3 + n + k = made_len Closing (3 + n + k) (name_of (take n hs)) t m.1 in
    (2 + n + k, omega (arith, whole, long), d.1)

one_tag : (g : Glyph) → closing_tag (g ∷ []) ≡ None
unfolding closing_tag
one_tag g = ap (λ (v : Bool). if v then tag_of Closing 3 (name_of []) else None) (and_false (is_in (λ (b : ℕ). b == 60) g))
  where
    and_false : (b : Bool) → ((b && false) && false) ≡ false
    and_false true = refl
    and_false false = refl

tag_by : (o : Option Tag) (g : Glyph) (hs : List Glyph) (t : Tag) → opening_tag (g ∷ hs) ≡ o → option_or o (closing_tag (g ∷ hs)) ≡ Some t → t.len ≡ length (g ∷ hs)
    → EndsWith 62 (g ∷ hs)
tag_by (Some u) g hs t e is whole = opening_ends g hs t (e ∙ is) whole
tag_by None g [] t e is whole = let none : None ≡ Some t = sym (one_tag g) ∙ is in cc
tag_by None g (h ∷ hs) t e is whole = closing_ends g h hs t is (omega (arith, whole))

pub tag_ends : (g : Glyph) (hs : List Glyph) (t : Tag) → tag_at (g ∷ hs) ≡ Some t → t.len ≡ length (g ∷ hs) → EndsWith 62 (g ∷ hs)
unfolding tag_at
tag_ends g hs t e whole = tag_by (opening_tag (g ∷ hs)) g hs t refl e whole

-- a pair of tags ends as its closing tag does
ends_append : (a : Bool) (xs ys : List Glyph) → ends_word a (xs ++ ys) ≡ ends_word (ends_word a xs) ys
ends_append a [] ys = refl
ends_append a (x ∷ xs) ys = ends_append (is_in is_word x) xs ys

found_last : (k : ℕ) (t : DepthChange) (d : ℕ) (a : Bool) (g : Glyph) (gs ys : List Glyph)
    → ((e : ℕ) (b : Bool) → partner k e gs ≡ Some ys → ends_word b gs ≡ ends_word false ys)
    → by_tag t d (g ∷ gs) (λ e. partner k e gs) ≡ Some ys → ends_word a (g ∷ gs) ≡ ends_word false ys
found_last k Up d a g gs ys f e = f (suc d) (is_in is_word g) e
found_last k Level d a g gs ys f e = f d (is_in is_word g) e
found_last k Down zero a g gs ys f e = ap (ends_word false) (same_list (g ∷ gs) ys e)
found_last k Down (suc d) a g gs ys f e = f d (is_in is_word g) e

partner_last : (k d : ℕ) (a : Bool) (gs ys : List Glyph) → partner k d gs ≡ Some ys → ends_word a gs ≡ ends_word false ys
partner_last k d a [] ys e = cc
partner_last k d a (g ∷ gs) ys e = found_last k (tag_turn k (g ∷ gs)) d a g gs ys (λ c b z. partner_last k c b gs ys z) e

whole_tag : (gs : List Glyph) → HasTag (tag_at gs) → len_of (tag_at gs) ≡ length gs → ends_word false gs ≡ false
whole_tag gs h e = tag_by_last (tag_at gs) gs refl h e
  where
    tag_by_last : (o : Option Tag) (us : List Glyph) → tag_at us ≡ o → HasTag o → len_of o ≡ length us → ends_word false us ≡ false
    tag_by_last None us i y z = absurd y
    tag_by_last (Some t) [] i y z = refl
    tag_by_last (Some t) (u ∷ us) i y z = ends_so 62 false (u ∷ us) refl (tag_ends u us t i z)

pair_last : (a : Bool) (t : Tag) (own : List Glyph) → IsPair t own → ends_word a own ≡ false
pair_last a t own p =
    ap (ends_word a) (sym (take-append-drop t.len own))
    ∙ ends_append a (take t.len own) (drop t.len own)
    ∙ partner_last (number p.name) 0 (ends_word a (take t.len own)) (drop t.len own) p.last p.closing
    ∙ whole_tag p.last (partner_tag (number p.name) 0 (drop t.len own) p.last p.closing) p.ends

tag_last : (a : Bool) (own : List Glyph) → IsTagNode own → ends_word a own ≡ false
tag_last a own n = subst (λ gs. ends_word a gs ≡ false) (sym n.is) (elim n.ends [
  | inl all ↦ ends_so 62 a (glyph.Byte 60 ∷ n.others) refl (tag_ends (glyph.Byte 60) n.others n.named n.tagged all)
  | inr pair ↦ pair_last a n.named (glyph.Byte 60 ∷ n.others) pair
])

-- ---- other nodes

pub lexeme_last : (a : Bool) (own : List Glyph) → IsOneLexeme own → ends_word a own ≡ false
lexeme_last a own n = elim n [
  | inl i ↦ subst (λ gs. ends_word a gs ≡ false) (sym i) refl
  | inr i ↦ subst (λ gs. ends_word a gs ≡ false) (sym i.1) refl
]

pub other_last : (a : Bool) (own : List Glyph) → IsOneLexeme own ⊎ (IsTagNode own ⊎ (IsCategoryNode own ⊎ IsMediaNode own)) → ends_word a own ≡ false
other_last a own n = elim n [
  | inl one ↦ lexeme_last a own one
  | inr other ↦ elim other [
    | inl tag ↦ tag_last a own tag
    | inr link ↦ elim link [
      | inl category ↦ category_ends a own category
      | inr media ↦ media_ends a own media
    ]
  ]
]
