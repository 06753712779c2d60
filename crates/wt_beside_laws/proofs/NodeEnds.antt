-- With what nodes that stay end: with no blank, and with no `=` but for bare URLs.
use Rattle.std.proofs.Common.{arith, ◌≡◌, ℕ, zero, suc, ◌+◌, ◌-◌, ◌<◌, ◌≤◌, ◌==◌, Bool, true, false, Option, Some, None, List, [], ◌∷◌, length, map, take, drop, refl, sym, ap, ◌∙◌, subst, inl, inr, ◌⊎◌, All}
use Rattle.std.specs.Prelude.{◌&&◌, not, codes, if◌then◌else◌}
use Rattle.std.proofs.lemmas.Bool.Decides.{nat_tests}
use Rattle.std.proofs.lemmas.List.{length-drop}
use Rattle.std.proofs.lemmas.List.Elements.{All-contains}
use Rattle.wt_span.specs.Bytes.{is_blank}
use Rattle.wt_span.specs.Items.{Item, char, whole, is_mark_form, sign}
use Rattle.wt_guards.specs.declared.role.Role.{Role}
use Rattle.wt_guards.specs.declared.role.Role.TheVariants.{Link, External, Bare, Switch, Toggle, Mark, Group, Function, Node}
use Rattle.wt_guards.specs.Content.{Thing, ContentSign, letter, thing}
use Rattle.wt_tiles.specs.declared.glyph.Glyph.{Glyph}
use Rattle.wt_tiles.specs.declared.glyph.Glyph.TheVariants as glyph
use Rattle.wt_tiles.specs.declared.glyph.GlyphClass.TheVariants as class
use Rattle.wt_tiles.specs.declared.shape.Shape.{Shape}
use Rattle.wt_tiles.specs.declared.tag.Tag.{Tag}
use Rattle.wt_tiles.specs.declared.target.LinkKind.{LinkKind}
use Rattle.wt_tiles.specs.declared.target.LinkKind.TheVariants.{Page, Category, Media}
use Rattle.wt_tiles.specs.declared.target.Target.{Target}
use Rattle.wt_tiles.specs.Glyphs.{glyph_of, in_class, is_in, is_small, first_is, run_len, begins, byte_glyphs}
use Rattle.wt_tiles.specs.Links.{target_of, kind_of, target_len, inner_len, has_pipe, head_len, link_shape, link_with, link_to, link_by, link_in}
use Rattle.wt_tiles.specs.Partners.{DepthChange, Up, Down, Level, number, tag_turn, by_tag, partner}
use Rattle.wt_tiles.specs.Searches.{IsHead}
use Rattle.wt_tiles.specs.Tags.{opening_tag, closing_tag, tag_at}
use Rattle.wt_tiles.specs.Tiles.{size, len_of, switch_names}
use Rattle.wt_tiles.specs.Urls.{scheme_len, is_url_char, is_url_glyph, url_run, url_items, kept_len, bare_url_of, bare_url_at}
use Rattle.wt_tiles.proofs.LinkFits.{head_within}
use Rattle.wt_text_edit_laws.specs.TypedHeadings.{EndsWithout, is_equals_sign}
use Rattle.wt_beside_laws.specs.Cuts.{own_glyphs}
use Rattle.wt_beside_laws.specs.InHeadings.{EndsUnequal}
use Rattle.wt_beside_laws.specs.Nodes.{IsLinkNode, IsExternalNode, IsBareNode, IsSwitchNode, IsDelimiter, IsCategoryNode, IsMediaNode, IsPair, IsTagNode, IsOneLexeme, IsNode, AreNodes}
use Rattle.wt_beside_laws.specs.Tiles.{IsPlainKind, IsCategoryKind, IsMediaKind, LeadsBy, AimsBy}
use Rattle.wt_beside_laws.proofs.LinkTiles.{with_made}
use Rattle.wt_beside_laws.proofs.NodesEnd.{EndsWith, external_ends, ClosesAt, inner_by, second_is, inside_of, other_ends, aims_other, category_other, media_other, tag_ends}
use Rattle.wt_beside_laws.proofs.NodesStand.{EachIs, all_by}
use Rattle.wt_beside_laws.proofs.PairTiles.{HasTag, partner_tag, same_list}
use Rattle.wt_beside_laws.proofs.TagFronts.{byte_is}
use Rattle.wt_beside_laws.proofs.UrlFronts.{some_shape}
use Rattle.wt_beside_laws.specs.NodeItems.{node_items}

-- ---- the last of some items

-- there is one, and it isn't a character that passes this test
abbrev LastFails : (ℕ → Bool) → List Glyph → Type 0
LastFails p [] = ⊥
LastFails p (g ∷ []) = is_in p g ≡ false
LastFails p (g ∷ h ∷ gs) = LastFails p (h ∷ gs)

one_more : (p : ℕ → Bool) (g : Glyph) (gs : List Glyph) → LastFails p gs → LastFails p (g ∷ gs)
one_more p g [] h = absurd h
one_more p g (k ∷ gs) h = h

last_drop : (p : ℕ → Bool) (i : ℕ) (gs : List Glyph) → LastFails p (drop i gs) → LastFails p gs
last_drop p zero [] h = absurd h
last_drop p (suc i) [] h = absurd h
last_drop p zero (g ∷ gs) h = h
last_drop p (suc i) (g ∷ gs) h = one_more p g gs (last_drop p i gs h)

last_at : (p : ℕ → Bool) (c k : ℕ) (gs : List Glyph) → p c ≡ false → suc k ≡ length gs → first_is (class.Only c) (drop k gs) ≡ true → LastFails p gs
last_at p c k [] w e f = absurd (omega (arith, e))
last_at p c zero (g ∷ []) w e f = let is : g ≡ glyph.Byte c = byte_is c g f in subst (λ x. is_in p x ≡ false) (sym is) w
last_at p c zero (g ∷ h ∷ gs) w e f = absurd (omega (arith, e))
last_at p c (suc k) (g ∷ []) w e f = absurd (omega (arith, e))
last_at p c (suc k) (g ∷ h ∷ gs) w e f = last_at p c k (h ∷ gs) w (omega (arith, e)) f

ends_so : (p : ℕ → Bool) (c : ℕ) (gs : List Glyph) → p c ≡ false → EndsWith c gs → LastFails p gs
ends_so p c gs w e = last_at p c e.0 gs w e.1 e.2

-- no sign with which a node ends passes this test
record FailsAtEnds (p : ℕ → Bool) : Type 0 where
  bracket : p 93 ≡ false
  greater : p 62 ≡ false
  underscore : p 95 ≡ false
  apostrophe : p 39 ≡ false
  small : (b : ℕ) → is_small b ≡ true → p b ≡ false

-- ---- links

trail_fails : (p : ℕ → Bool) (g : Glyph) → FailsAtEnds p → in_class class.Trail g ≡ true → is_in p g ≡ false
trail_fails p (glyph.Byte b) f e = f.small b e
trail_fails p (glyph.Entity c) f e = refl
trail_fails p glyph.Atom f e = refl
trail_fails p glyph.Mark f e = refl

run_fails : (p : ℕ → Bool) (us : List Glyph) → FailsAtEnds p → run_len class.Trail us ≡ length us → 0 < length us → LastFails p us
run_fails p [] f e some = absurd (omega (arith, some))
run_fails p (u ∷ us) f e some = by (in_class class.Trail u) refl e (λ z k. run_fails p us f z k)
  where
    rest_fails : (vs : List Glyph) → (run_len class.Trail vs ≡ length vs → 0 < length vs → LastFails p vs) → run_len class.Trail vs ≡ length vs
        → in_class class.Trail u ≡ true → LastFails p (u ∷ vs)
    rest_fails [] k z i = trail_fails p u f i
    rest_fails (v ∷ vs) k z i = k z (omega arith)

    by : (t : Bool) → in_class class.Trail u ≡ t → (if t then 1 + run_len class.Trail us else 0) ≡ suc (length us)
        → (run_len class.Trail us ≡ length us → 0 < length us → LastFails p us) → LastFails p (u ∷ us)
    by true i z k = rest_fails us k (omega (arith, z)) i
    by false i z k = absurd (omega (arith, z))

-- behind the `]]` at a place are letters that join it, or nothing
page_fails : (p : ℕ → Bool) (j r : ℕ) (gs : List Glyph) → FailsAtEnds p → ClosesAt gs j → run_len class.Trail (drop (j + 2) gs) ≡ r → j + 2 + r ≡ length gs
    → LastFails p gs
page_fails p j zero gs f c e full = last_at p 93 (suc j) gs f.bracket (omega (arith, full)) (second_is j gs c)
page_fails p j (suc r) gs f c e long =
    let cut : length (drop (j + 2) gs) ≡ length gs - (j + 2) = length-drop (j + 2) gs in
    let full : suc r ≡ length (drop (j + 2) gs) = omega (arith, cut, long) in
    let some : 0 < length (drop (j + 2) gs) = omega (arith, full) in
    last_drop p (j + 2) gs (run_fails p (drop (j + 2) gs) f (e ∙ full) some)

plain_fails : (p : ℕ → Bool) (k : LinkKind) (head j : ℕ) (gs : List Glyph) → FailsAtEnds p → IsPlainKind k → IsHead k head j → ClosesAt gs j
    → size (link_shape k head j gs) ≡ 2 + length gs → LastFails p gs
plain_fails p Page head j gs f a h c e =
    let le : head ≤ j = h in
    page_fails p j (run_len class.Trail (drop (j + 2) gs)) gs f c refl (omega (arith, e, le))
plain_fails p Category head j gs f a h c e = last_at p 93 (suc j) gs f.bracket (omega (arith, e)) (second_is j gs c)
plain_fails p Media head j gs f a h c e = absurd a

with_fails : (p : ℕ → Bool) (t : Target) (n : ℕ) (o : Option ℕ) (gs : List Glyph) (w : Shape) → FailsAtEnds p → IsPlainKind (kind_of t)
    → inner_len (kind_of t) n gs ≡ o → link_with t n o gs ≡ Some w → size w ≡ 2 + length gs → LastFails p gs
with_fails p t n None gs w f h i e full = cc
with_fails p t n (Some j) gs w f h i e full =
    let head : ℕ = head_len t.colon n gs in
    let m = with_made (has_pipe n gs && j == n + 1) (link_shape (kind_of t) head j gs) w e in
    plain_fails p (kind_of t) head j gs f h (head_within (kind_of t) t.colon n j gs (Some j) (sym i) refl) (inner_by (kind_of t) n j gs i)
    (ap size m.1 ∙ full)

to_fails : (p : ℕ → Bool) (o : Option Target) (n : ℕ) (gs : List Glyph) (w : Shape) → FailsAtEnds p → LeadsBy IsPlainKind o → link_to o n gs ≡ Some w
    → size w ≡ 2 + length gs → LastFails p gs
to_fails p None n gs w f h e full = cc
to_fails p (Some t) n gs w f h e full = with_fails p t n (inner_len (kind_of t) n gs) gs w f h refl e full

by_fails : (p : ℕ → Bool) (o : Option ℕ) (gs : List Glyph) (w : Shape) → FailsAtEnds p → AimsBy IsPlainKind o gs → link_by o gs ≡ Some w
    → size w ≡ 2 + length gs → LastFails p gs
by_fails p None gs w f h e full = cc
by_fails p (Some n) gs w f h e full = to_fails p (target_of (take n gs)) n gs w f h e full

in_fails : (p : ℕ → Bool) (gs : List Glyph) (w : Shape) → FailsAtEnds p → AimsBy IsPlainKind (target_len gs) gs → link_in gs ≡ Some w → size w ≡ 2 + length gs
    → LastFails p gs
unfolding link_in
in_fails p gs w f h e full = by_fails p (target_len gs) gs w f h e full

link_fails : (p : ℕ → Bool) (own : List Glyph) → FailsAtEnds p → IsLinkNode own → LastFails p own
link_fails p own f n =
    let full : size n.shape ≡ 2 + length n.inside = n.whole ∙ ap length n.is ∙ omega arith in
    subst (LastFails p) (sym n.is)
    (last_drop p 2 (glyph.Byte 91 ∷ glyph.Byte 91 ∷ n.inside) (in_fails p n.inside n.shape f n.plain (inside_of n.inside n.shape n.link) full))

category_fails : (p : ℕ → Bool) (own : List Glyph) → FailsAtEnds p → IsCategoryNode own → LastFails p own
category_fails p own f n =
    let full : size n.shape ≡ 2 + length n.inside = n.whole ∙ ap length n.is ∙ omega arith in
    subst (LastFails p) (sym n.is)
    (ends_so p 93 (glyph.Byte 91 ∷ glyph.Byte 91 ∷ n.inside) f.bracket
    (other_ends n.inside n.shape (aims_other IsCategoryKind category_other (target_len n.inside) n.inside n.category) n.link full))

media_fails : (p : ℕ → Bool) (own : List Glyph) → FailsAtEnds p → IsMediaNode own → LastFails p own
media_fails p own f n =
    let full : size n.shape ≡ 2 + length n.inside = n.whole ∙ ap length n.is ∙ omega arith in
    let aims : AimsBy IsMediaKind (target_len n.inside) n.inside =
    subst (λ (o : Option ℕ). AimsBy IsMediaKind o n.inside) (sym n.media.target) n.media.kind in
    subst (LastFails p) (sym n.is)
    (ends_so p 93 (glyph.Byte 91 ∷ glyph.Byte 91 ∷ n.inside) f.bracket
    (other_ends n.inside n.shape (aims_other IsMediaKind media_other (target_len n.inside) n.inside aims) n.link full))

external_fails : (p : ℕ → Bool) (own : List Glyph) → FailsAtEnds p → IsExternalNode own → LastFails p own
external_fails p own f n =
    subst (LastFails p) (sym n.is)
    (ends_so p 93 (glyph.Byte 91 ∷ n.inside) f.bracket (external_ends (glyph.Byte 91) n.inside n.shape n.link (n.whole ∙ ap length n.is)))

-- ---- bare URLs

char_blank : (b : ℕ) → is_url_char b ≡ true → is_blank b ≡ false
unfolding is_url_char
char_blank b e = grind (arith, nat_tests, e)

url_blank : (g : Glyph) → is_url_glyph g ≡ true → is_in is_blank g ≡ false
url_blank (glyph.Byte b) e = char_blank b e
url_blank (glyph.Entity c) e = refl
url_blank glyph.Atom e = refl
url_blank glyph.Mark e = refl

url_fails : (us : List Glyph) → length us ≤ url_run us → 0 < length us → LastFails is_blank us
url_fails [] le some = absurd (omega (arith, some))
url_fails (u ∷ us) le some = by (is_url_glyph u) (not (begins (codes "''") (u ∷ us))) refl le (λ z k. url_fails us z k)
  where
    rest_fails : (vs : List Glyph) → (length vs ≤ url_run vs → 0 < length vs → LastFails is_blank vs) → length vs ≤ url_run vs
        → is_url_glyph u ≡ true → LastFails is_blank (u ∷ vs)
    rest_fails [] k z i = url_blank u i
    rest_fails (v ∷ vs) k z i = k z (omega arith)

    by : (t v : Bool) → is_url_glyph u ≡ t → suc (length us) ≤ (if t && v then suc (url_run us) else 0)
        → (length us ≤ url_run us → 0 < length us → LastFails is_blank us) → LastFails is_blank (u ∷ us)
    by true true i z k = rest_fails us k (omega (arith, z)) i
    by true false i z k = absurd (omega (arith, z))
    by false v i z k = absurd (omega (arith, z))

pub kept_most : (us : List Glyph) → kept_len us ≤ length us
unfolding kept_len
kept_most us = omega arith

bare_full : (gs : List Glyph) (w : Shape) → bare_url_of (scheme_len gs) (kept_len (url_items gs)) ≡ Some w → size w ≡ length gs → LastFails is_blank gs
bare_full gs w e full =
    let s : ℕ = scheme_len gs in
    let us : List Glyph = drop s gs in
    let m = some_shape s (kept_len (url_items gs)) w e in
    let long : size w ≡ s + kept_len (url_items gs) = m.2 in
    let some : 1 ≤ kept_len (url_items gs) = m.1 in
    let kept : kept_len (url_items gs) ≤ length (url_items gs) = kept_most (url_items gs) in
    let cut : length us ≡ length gs - s = length-drop s gs in
    let taken : length (take (url_run us) us) ≤ url_run us = take_most (url_run us) us in
    last_drop is_blank s gs (url_fails us (omega (arith, full, long, some, kept, cut, taken)) (omega (arith, full, long, some, cut)))
  where
    take_most : (n : ℕ) (xs : List Glyph) → length (take n xs) ≤ n
    take_most zero [] = omega arith
    take_most zero (x ∷ xs) = omega arith
    take_most (suc n) [] = omega arith
    take_most (suc n) (x ∷ xs) = let le : length (take n xs) ≤ n = take_most n xs in omega (arith, le)

bare_of : (gs : List Glyph) (w : Shape) → bare_url_at false gs ≡ Some w → bare_url_of (scheme_len gs) (kept_len (url_items gs)) ≡ Some w
unfolding bare_url_at
bare_of gs w e = e

bare_fails : (own : List Glyph) → IsBareNode own → LastFails is_blank own
bare_fails own n =
    subst (LastFails is_blank) (sym n.is)
    (bare_full (glyph.Byte n.first ∷ n.others) n.shape (bare_of (glyph.Byte n.first ∷ n.others) n.shape n.url) (n.whole ∙ ap length n.is))

-- ---- tags

suffix_by : (k : ℕ) (t : DepthChange) (d : ℕ) (g : Glyph) (gs ys : List Glyph) → ((e : ℕ) → partner k e gs ≡ Some ys → (j : ℕ) × (drop j gs ≡ ys))
    → by_tag t d (g ∷ gs) (λ e. partner k e gs) ≡ Some ys → (j : ℕ) × (drop j (g ∷ gs) ≡ ys)
suffix_by k Up d g gs ys f e = let r = f (suc d) e in (suc r.0, r.1)
suffix_by k Level d g gs ys f e = let r = f d e in (suc r.0, r.1)
suffix_by k Down zero g gs ys f e = (0, same_list (g ∷ gs) ys e)
suffix_by k Down (suc d) g gs ys f e = let r = f d e in (suc r.0, r.1)

pub partner_suffix : (k d : ℕ) (gs ys : List Glyph) → partner k d gs ≡ Some ys → (j : ℕ) × (drop j gs ≡ ys)
partner_suffix k d [] ys e = cc
partner_suffix k d (g ∷ gs) ys e = suffix_by k (tag_turn k (g ∷ gs)) d g gs ys (λ c z. partner_suffix k c gs ys z) e

pub none_tagged : HasTag (tag_at []) → ⊥
unfolding tag_at opening_tag closing_tag
none_tagged h = h

whole_tag : (p : ℕ → Bool) (gs : List Glyph) → FailsAtEnds p → HasTag (tag_at gs) → len_of (tag_at gs) ≡ length gs → LastFails p gs
whole_tag p [] f h e = absurd (none_tagged h)
whole_tag p (g ∷ gs) f h e = by (tag_at (g ∷ gs)) refl h e
  where
    by : (o : Option Tag) → tag_at (g ∷ gs) ≡ o → HasTag o → len_of o ≡ length (g ∷ gs) → LastFails p (g ∷ gs)
    by None i y z = absurd y
    by (Some t) i y z = ends_so p 62 (g ∷ gs) f.greater (tag_ends g gs t i z)

pair_fails : (p : ℕ → Bool) (t : Tag) (own : List Glyph) → FailsAtEnds p → IsPair t own → LastFails p own
pair_fails p t own f n =
    let r = partner_suffix (number n.name) 0 (drop t.len own) n.last n.closing in
    let last : LastFails p n.last = whole_tag p n.last f (partner_tag (number n.name) 0 (drop t.len own) n.last n.closing) n.ends in
    last_drop p t.len own (last_drop p r.0 (drop t.len own) (subst (LastFails p) (sym r.1) last))

tag_fails : (p : ℕ → Bool) (own : List Glyph) → FailsAtEnds p → IsTagNode own → LastFails p own
tag_fails p own f n = subst (LastFails p) (sym n.is) (elim n.ends [
  | inl all ↦ ends_so p 62 (glyph.Byte 60 ∷ n.others) f.greater (tag_ends (glyph.Byte 60) n.others n.named n.tagged all)
  | inr pair ↦ pair_fails p n.named (glyph.Byte 60 ∷ n.others) f pair
])

-- ---- other nodes

each_fails : (p : ℕ → Bool) → FailsAtEnds p → EachIs (λ word. LastFails p (byte_glyphs (95 ∷ 95 ∷ word))) switch_names
unfolding switch_names
each_fails p f = let u = f.underscore in (u, (u, (u, (u, (u, (u, (u, (u, (u, tt)))))))))

switches_fail : (p : ℕ → Bool) → FailsAtEnds p → All (λ word. LastFails p (byte_glyphs (95 ∷ 95 ∷ word))) switch_names
switches_fail p f = all_by (λ word. LastFails p (byte_glyphs (95 ∷ 95 ∷ word))) switch_names (each_fails p f)

switch_fails : (p : ℕ → Bool) (own : List Glyph) → FailsAtEnds p → IsSwitchNode own → LastFails p own
switch_fails p own f n =
    subst (LastFails p) (sym n.is) (All-contains (λ word. LastFails p (byte_glyphs (95 ∷ 95 ∷ word))) switch_names n.word (switches_fail p f) n.named)

delimiter_fails : (p : ℕ → Bool) (own : List Glyph) → FailsAtEnds p → IsDelimiter own → LastFails p own
delimiter_fails p own f n = elim n [
  | inl i ↦ subst (LastFails p) (sym i) f.apostrophe
  | inr i ↦ subst (LastFails p) (sym i) f.apostrophe
]

lexeme_fails : (p : ℕ → Bool) (own : List Glyph) → IsOneLexeme own → LastFails p own
lexeme_fails p own n = elim n [
  | inl i ↦ subst (LastFails p) (sym i) refl
  | inr i ↦ subst (LastFails p) (sym i.1) refl
]

other_fails : (p : ℕ → Bool) (own : List Glyph) → FailsAtEnds p → IsOneLexeme own ⊎ (IsTagNode own ⊎ (IsCategoryNode own ⊎ IsMediaNode own)) → LastFails p own
other_fails p own f n = elim n [
  | inl one ↦ lexeme_fails p own one
  | inr other ↦ elim other [
    | inl tag ↦ tag_fails p own f tag
    | inr link ↦ elim link [
      | inl category ↦ category_fails p own f category
      | inr media ↦ media_fails p own f media
    ]
  ]
]

mark_fails : (p : ℕ → Bool) (own : List Glyph) → own ≡ glyph.Mark ∷ [] → LastFails p own
mark_fails p own i = subst (LastFails p) (sym i) refl

node_fails : (p : ℕ → Bool) (r : Role) (own : List Glyph) → FailsAtEnds p → (IsBareNode own → LastFails p own) → IsNode r own → LastFails p own
node_fails p Link own f k n = link_fails p own f n
node_fails p External own f k n = external_fails p own f n
node_fails p (Bare ends) own f k n = k n
node_fails p Switch own f k n = switch_fails p own f n
node_fails p Toggle own f k n = delimiter_fails p own f n
node_fails p (Mark ends began) own f k n = mark_fails p own n
node_fails p (Group g) own f k n = absurd n
node_fails p Function own f k n = lexeme_fails p own n
node_fails p Node own f k n = other_fails p own f n

-- ---- by their signs

whole_sign : (p : ℕ → Bool) (t : Bool) → p 256 ≡ false → p 257 ≡ false → p (if t then 257 else 256) ≡ false
whole_sign p true a b = b
whole_sign p false a b = a

item_sign : (p : ℕ → Bool) (x : Item) → p 256 ≡ false → p 257 ≡ false → is_in p (glyph_of x) ≡ false → p (sign x) ≡ false
item_sign p (char o b) a c h = h
item_sign p (whole f o bs) a c h = whole_sign p (is_mark_form f) a c

last_sign : (p : ℕ → Bool) (xs : List Item) → p 256 ≡ false → p 257 ≡ false → LastFails p (map glyph_of xs) → EndsWithout p (map sign xs)
last_sign p [] a c h = absurd h
last_sign p (x ∷ []) a c h = item_sign p x a c h
last_sign p (x ∷ y ∷ xs) a c h = last_sign p (y ∷ xs) a c h

-- ---- blanks

-- no node ends with one
abbrev pub EndInSigns : List ContentSign → Type 0
EndInSigns [] = Unit {0}
EndInSigns (letter c ∷ after) = EndInSigns after
EndInSigns (thing t ∷ after) = EndsWithout is_blank (map sign (node_items t.source)) × EndInSigns after

no_blank : FailsAtEnds is_blank
no_blank = record { bracket = refl; greater = refl; underscore = refl; apostrophe = refl; small = small_by }
  where
    small_by : (b : ℕ) → is_small b ≡ true → is_blank b ≡ false
    small_by b e = grind (arith, nat_tests, e)

pub nodes_end : (signs : List ContentSign) → AreNodes signs → EndInSigns signs
nodes_end [] n = tt
nodes_end (letter c ∷ after) n = nodes_end after n
nodes_end (thing t ∷ after) n = (
  last_sign is_blank (node_items t.source) refl refl (node_fails is_blank t.role (own_glyphs t) no_blank (bare_fails (own_glyphs t)) n.0),
  nodes_end after n.1,
)

-- ---- `=`

no_equals : FailsAtEnds is_equals_sign
no_equals = record { bracket = refl; greater = refl; underscore = refl; apostrophe = refl; small = small_by }
  where
    small_by : (b : ℕ) → is_small b ≡ true → is_equals_sign b ≡ false
    small_by b e = grind (arith, nat_tests, e)

pub unequal_by : (r : Role) (items : List Item) → IsNode r (map glyph_of items) → EndsUnequal r (map sign items) → EndsWithout is_equals_sign (map sign items)
unequal_by (Bare ends) items n e = e
unequal_by Link items n e = last_sign is_equals_sign items refl refl (link_fails is_equals_sign (map glyph_of items) no_equals n)
unequal_by External items n e = last_sign is_equals_sign items refl refl (external_fails is_equals_sign (map glyph_of items) no_equals n)
unequal_by Switch items n e = last_sign is_equals_sign items refl refl (switch_fails is_equals_sign (map glyph_of items) no_equals n)
unequal_by Toggle items n e = last_sign is_equals_sign items refl refl (delimiter_fails is_equals_sign (map glyph_of items) no_equals n)
unequal_by (Mark ends began) items n e = last_sign is_equals_sign items refl refl (mark_fails is_equals_sign (map glyph_of items) n)
unequal_by (Group g) items n e = absurd n
unequal_by Function items n e = last_sign is_equals_sign items refl refl (lexeme_fails is_equals_sign (map glyph_of items) n)
unequal_by Node items n e = last_sign is_equals_sign items refl refl (other_fails is_equals_sign (map glyph_of items) no_equals n)

pub ends_unequal : (t : Thing) → IsNode t.role (own_glyphs t) → EndsUnequal t.role (map sign (node_items t.source))
    → EndsWithout is_equals_sign (map sign (node_items t.source))
ends_unequal t n e = unequal_by t.role (node_items t.source) n e
