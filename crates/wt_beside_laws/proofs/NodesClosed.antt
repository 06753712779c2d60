-- Behind each `<` in a node comes a `]` or a `>`: so no closing tag that begins in it goes on behind it.
use Rattle.std.proofs.Common.{arith, ◌≡◌, ℕ, zero, suc, ◌+◌, ◌-◌, ◌≤◌, ◌==◌, Bool, true, false, Option, Some, None, List, [], ◌∷◌, length, take, drop, refl, sym, ap, ap₂, ◌∙◌, subst, inl, inr, ◌⊎◌, All}
use Rattle.std.specs.Prelude.{◌&&◌, ◌||◌, codes, if◌then◌else◌}
use Rattle.std.proofs.lemmas.Bool.Decides.{nat_tests}
use Rattle.std.proofs.lemmas.List.{length-drop}
use Rattle.std.proofs.lemmas.List.Elements.{All-contains}
use Rattle.wt_guards.specs.declared.role.Role.{Role}
use Rattle.wt_guards.specs.declared.role.Role.TheVariants.{Link, External, Bare, Switch, Toggle, Mark, Group, Function, Node}
use Rattle.wt_tiles.specs.declared.glyph.Glyph.{Glyph}
use Rattle.wt_tiles.specs.declared.glyph.Glyph.TheVariants as glyph
use Rattle.wt_tiles.specs.declared.glyph.GlyphClass.TheVariants as class
use Rattle.wt_tiles.specs.declared.shape.Shape.{Shape}
use Rattle.wt_tiles.specs.declared.tag.Tag.{Tag}
use Rattle.wt_tiles.specs.declared.target.LinkKind.{LinkKind}
use Rattle.wt_tiles.specs.declared.target.LinkKind.TheVariants.{Page, Category, Media}
use Rattle.wt_tiles.specs.declared.target.Target.{Target}
use Rattle.wt_tiles.specs.Glyphs.{in_class, is_small, first_is, run_len, byte_glyphs}
use Rattle.wt_tiles.specs.Links.{target_of, kind_of, target_len, inner_len, has_pipe, head_len, link_shape, link_with, link_to, link_by, link_in}
use Rattle.wt_tiles.specs.Partners.{number}
use Rattle.wt_tiles.specs.Searches.{IsHead}
use Rattle.wt_tiles.specs.Tags.{tag_at}
use Rattle.wt_tiles.specs.Tiles.{size, len_of, switch_names}
use Rattle.wt_tiles.proofs.LinkFits.{head_within}
use Rattle.wt_beside_laws.specs.Nodes.{IsLinkNode, IsExternalNode, IsBareNode, IsSwitchNode, IsDelimiter, IsCategoryNode, IsMediaNode, IsPair, IsTagNode, IsOneLexeme, IsNode}
use Rattle.wt_beside_laws.specs.OpenTags.{is_tagged}
use Rattle.wt_beside_laws.specs.Tiles.{IsPlainKind, IsCategoryKind, IsMediaKind, LeadsBy, AimsBy}
use Rattle.wt_beside_laws.proofs.LinesOpen.{neither}
use Rattle.wt_beside_laws.proofs.LinkTiles.{with_made}
use Rattle.wt_beside_laws.proofs.NodeEnds.{partner_suffix, none_tagged}
use Rattle.wt_beside_laws.proofs.NodesEnd.{EndsWith, external_ends, ClosesAt, inner_by, second_is, inside_of, other_ends, aims_other, category_other, media_other, tag_ends}
use Rattle.wt_beside_laws.proofs.NodesStand.{EachIs, all_by}
use Rattle.wt_beside_laws.proofs.PairTiles.{HasTag, partner_tag}
use Rattle.wt_beside_laws.proofs.TagFronts.{byte_is}
use Rattle.wt_beside_laws.proofs.UrlShown.{AreTextual, IsTextual, all_textual}

-- ---- a `]` or a `>`

abbrev pub has_closer : List Glyph → Bool
has_closer [] = false
has_closer (g ∷ gs) = (in_class (class.Only 93) g || in_class (class.Only 62) g) || has_closer gs

abbrev pub EachCloses : List Glyph → Type 0
EachCloses [] = Unit {0}
EachCloses (g ∷ gs) = (in_class (class.Only 60) g ≡ true → has_closer gs ≡ true) × EachCloses gs

or_right : (a b : Bool) → b ≡ true → (a || b) ≡ true
or_right true b e = refl
or_right false b e = e

or_left : (a b : Bool) → a ≡ true → (a || b) ≡ true
or_left true b e = refl
or_left false b e = cc

untagged_closes : (gs : List Glyph) → is_tagged gs ≡ false → EachCloses gs
untagged_closes [] e = tt
untagged_closes (g ∷ gs) e =
    let z = neither (in_class (class.Only 60) g) (is_tagged gs) e in
    ((λ i. let no : true ≡ false = sym i ∙ z.0 in cc), untagged_closes gs z.1)

-- one is somewhere, and behind it no `<`
abbrev Placed : List Glyph → Type 0
Placed gs = (k : ℕ) × (has_closer (drop k gs) ≡ true) × (is_tagged (drop k gs) ≡ false)

from_place : (k : ℕ) (gs : List Glyph) → has_closer (drop k gs) ≡ true → is_tagged (drop k gs) ≡ false → EachCloses gs × (has_closer gs ≡ true)
from_place zero [] c u = absurd (let no : false ≡ true = c in cc)
from_place zero (g ∷ gs) c u = (untagged_closes (g ∷ gs) u, c)
from_place (suc k) [] c u = absurd (let no : false ≡ true = c in cc)
from_place (suc k) (g ∷ gs) c u =
    let r = from_place k gs c u in ((λ e. r.1, r.0), or_right (in_class (class.Only 93) g || in_class (class.Only 62) g) (has_closer gs) r.1)

placed_closes : (gs : List Glyph) → Placed gs → EachCloses gs
placed_closes gs h = (from_place h.0 gs h.1 h.2).0

placed_drop : (i : ℕ) (gs : List Glyph) → Placed (drop i gs) → Placed gs
placed_drop zero [] h = h
placed_drop zero (g ∷ gs) h = h
placed_drop (suc i) [] h = h
placed_drop (suc i) (g ∷ gs) h = let r = placed_drop i gs h in (suc r.0, r.1, r.2)

bracket_first : (gs : List Glyph) → first_is (class.Only 93) gs ≡ true → has_closer gs ≡ true
bracket_first [] e = cc
bracket_first (g ∷ gs) e =
    or_left (in_class (class.Only 93) g || in_class (class.Only 62) g) (has_closer gs) (or_left (in_class (class.Only 93) g) (in_class (class.Only 62) g) e)

greater_first : (gs : List Glyph) → first_is (class.Only 62) gs ≡ true → has_closer gs ≡ true
greater_first [] e = cc
greater_first (g ∷ gs) e =
    or_left (in_class (class.Only 93) g || in_class (class.Only 62) g) (has_closer gs) (or_right (in_class (class.Only 93) g) (in_class (class.Only 62) g) e)

-- the last item is none but this one
one_untagged : (c k : ℕ) (gs : List Glyph) → (c == 60) ≡ false → suc k ≡ length gs → first_is (class.Only c) (drop k gs) ≡ true → is_tagged (drop k gs) ≡ false
one_untagged c k [] w e f = absurd (omega (arith, e))
one_untagged c zero (g ∷ []) w e f =
    let is : g ≡ glyph.Byte c = byte_is c g f in subst (λ (x : Glyph). is_tagged (x ∷ []) ≡ false) (sym is) (ap (λ (v : Bool). v || false) w)
one_untagged c zero (g ∷ h ∷ gs) w e f = absurd (omega (arith, e))
one_untagged c (suc k) (g ∷ []) w e f = absurd (omega (arith, e))
one_untagged c (suc k) (g ∷ h ∷ gs) w e f = one_untagged c k (h ∷ gs) w (omega (arith, e)) f

bracket_placed : (gs : List Glyph) → EndsWith 93 gs → Placed gs
bracket_placed gs e = (e.0, bracket_first (drop e.0 gs) e.2, one_untagged 93 e.0 gs refl e.1 e.2)

greater_placed : (gs : List Glyph) → EndsWith 62 gs → Placed gs
greater_placed gs e = (e.0, greater_first (drop e.0 gs) e.2, one_untagged 62 e.0 gs refl e.1 e.2)

-- ---- links

small_less : (b : ℕ) → is_small b ≡ true → (b == 60) ≡ false
small_less b e = grind (arith, nat_tests, e)

trail_less : (g : Glyph) → in_class class.Trail g ≡ true → in_class (class.Only 60) g ≡ false
trail_less (glyph.Byte b) e = small_less b e
trail_less (glyph.Entity c) e = refl
trail_less glyph.Atom e = refl
trail_less glyph.Mark e = refl

trail_untagged : (us : List Glyph) → run_len class.Trail us ≡ length us → is_tagged us ≡ false
trail_untagged [] e = refl
trail_untagged (u ∷ us) e = by (in_class class.Trail u) refl e (λ z. trail_untagged us z)
  where
    by : (t : Bool) → in_class class.Trail u ≡ t → (if t then 1 + run_len class.Trail us else 0) ≡ suc (length us)
        → (run_len class.Trail us ≡ length us → is_tagged us ≡ false) → is_tagged (u ∷ us) ≡ false
    by true i z f = ap₂ (λ (v w : Bool). v || w) (trail_less u i) (f (omega (arith, z)))
    by false i z f = absurd (omega (arith, z))

bracket_less : (g : Glyph) → in_class (class.Only 93) g ≡ true → in_class (class.Only 60) g ≡ false
bracket_less g f = let is : g ≡ glyph.Byte 93 = byte_is 93 g f in subst (λ (x : Glyph). in_class (class.Only 60) x ≡ false) (sym is) refl

none_dropped : (gs : List Glyph) → drop 0 gs ≡ gs
none_dropped [] = refl
none_dropped (g ∷ gs) = refl

bracket_untagged : (k : ℕ) (gs : List Glyph) → first_is (class.Only 93) (drop k gs) ≡ true → is_tagged (drop (suc k) gs) ≡ false → is_tagged (drop k gs) ≡ false
bracket_untagged zero [] f u = refl
bracket_untagged zero (g ∷ gs) f u = ap₂ (λ (v w : Bool). v || w) (bracket_less g f) (ap is_tagged (sym (none_dropped gs)) ∙ u)
bracket_untagged (suc k) [] f u = refl
bracket_untagged (suc k) (g ∷ gs) f u = bracket_untagged k gs f u

-- behind the `]]` at a place are letters that join it, or nothing
page_placed : (j : ℕ) (gs : List Glyph) → ClosesAt gs j → j + 2 + run_len class.Trail (drop (j + 2) gs) ≡ length gs → Placed gs
page_placed j gs c long =
    let us : List Glyph = drop (j + 2) gs in
    let cut : length us ≡ length gs - (j + 2) = length-drop (j + 2) gs in
    let full : run_len class.Trail us ≡ length us = omega (arith, cut, long) in
    let two : suc (suc j) ≡ j + 2 = omega arith in
    let behind : is_tagged (drop (suc (suc j)) gs) ≡ false = ap (λ (n : ℕ). is_tagged (drop n gs)) two ∙ trail_untagged us full in
    (suc j, bracket_first (drop (suc j) gs) (second_is j gs c), bracket_untagged (suc j) gs (second_is j gs c) behind)

plain_placed : (k : LinkKind) (head j : ℕ) (gs : List Glyph) → IsPlainKind k → IsHead k head j → ClosesAt gs j → size (link_shape k head j gs) ≡ 2 + length gs
    → Placed gs
plain_placed Page head j gs a h c e = let le : head ≤ j = h in page_placed j gs c (omega (arith, e, le))
plain_placed Category head j gs a h c e = bracket_placed gs (suc j, omega (arith, e), second_is j gs c)
plain_placed Media head j gs a h c e = absurd a

with_placed : (t : Target) (n : ℕ) (o : Option ℕ) (gs : List Glyph) (w : Shape) → IsPlainKind (kind_of t) → inner_len (kind_of t) n gs ≡ o
    → link_with t n o gs ≡ Some w → size w ≡ 2 + length gs → Placed gs
with_placed t n None gs w h i e full = cc
with_placed t n (Some j) gs w h i e full =
    let head : ℕ = head_len t.colon n gs in
    let m = with_made (has_pipe n gs && j == n + 1) (link_shape (kind_of t) head j gs) w e in
    plain_placed (kind_of t) head j gs h (head_within (kind_of t) t.colon n j gs (Some j) (sym i) refl) (inner_by (kind_of t) n j gs i) (ap size m.1 ∙ full)

to_placed : (o : Option Target) (n : ℕ) (gs : List Glyph) (w : Shape) → LeadsBy IsPlainKind o → link_to o n gs ≡ Some w → size w ≡ 2 + length gs → Placed gs
to_placed None n gs w h e full = cc
to_placed (Some t) n gs w h e full = with_placed t n (inner_len (kind_of t) n gs) gs w h refl e full

by_placed : (o : Option ℕ) (gs : List Glyph) (w : Shape) → AimsBy IsPlainKind o gs → link_by o gs ≡ Some w → size w ≡ 2 + length gs → Placed gs
by_placed None gs w h e full = cc
by_placed (Some n) gs w h e full = to_placed (target_of (take n gs)) n gs w h e full

in_placed : (gs : List Glyph) (w : Shape) → AimsBy IsPlainKind (target_len gs) gs → link_in gs ≡ Some w → size w ≡ 2 + length gs → Placed gs
unfolding link_in
in_placed gs w h e full = by_placed (target_len gs) gs w h e full

link_closes : (own : List Glyph) → IsLinkNode own → EachCloses own
link_closes own n =
    let full : size n.shape ≡ 2 + length n.inside = n.whole ∙ ap length n.is ∙ omega arith in
    subst EachCloses (sym n.is)
    (placed_closes (glyph.Byte 91 ∷ glyph.Byte 91 ∷ n.inside)
    (placed_drop 2 (glyph.Byte 91 ∷ glyph.Byte 91 ∷ n.inside)
    (subst Placed (sym (none_dropped n.inside)) (in_placed n.inside n.shape n.plain (inside_of n.inside n.shape n.link) full))))

category_closes : (own : List Glyph) → IsCategoryNode own → EachCloses own
category_closes own n =
    let full : size n.shape ≡ 2 + length n.inside = n.whole ∙ ap length n.is ∙ omega arith in
    let all : List Glyph = glyph.Byte 91 ∷ glyph.Byte 91 ∷ n.inside in
    subst EachCloses (sym n.is)
    (placed_closes all
    (bracket_placed all (other_ends n.inside n.shape (aims_other IsCategoryKind category_other (target_len n.inside) n.inside n.category) n.link full)))

media_closes : (own : List Glyph) → IsMediaNode own → EachCloses own
media_closes own n =
    let full : size n.shape ≡ 2 + length n.inside = n.whole ∙ ap length n.is ∙ omega arith in
    let all : List Glyph = glyph.Byte 91 ∷ glyph.Byte 91 ∷ n.inside in
    let aims : AimsBy IsMediaKind (target_len n.inside) n.inside =
    subst (λ (o : Option ℕ). AimsBy IsMediaKind o n.inside) (sym n.media.target) n.media.kind in
    subst EachCloses (sym n.is)
    (placed_closes all (bracket_placed all (other_ends n.inside n.shape (aims_other IsMediaKind media_other (target_len n.inside) n.inside aims) n.link full)))

external_closes : (own : List Glyph) → IsExternalNode own → EachCloses own
external_closes own n =
    let all : List Glyph = glyph.Byte 91 ∷ n.inside in
    subst EachCloses (sym n.is) (placed_closes all (bracket_placed all (external_ends (glyph.Byte 91) n.inside n.shape n.link (n.whole ∙ ap length n.is))))

-- ---- bare URLs

textual_less : (g : Glyph) → IsTextual g → in_class (class.Only 60) g ≡ false
textual_less (glyph.Byte b) h = h
textual_less (glyph.Entity c) h = refl
textual_less glyph.Atom h = absurd h
textual_less glyph.Mark h = absurd h

textual_untagged : (gs : List Glyph) → AreTextual gs → is_tagged gs ≡ false
textual_untagged [] h = refl
textual_untagged (g ∷ gs) h = ap₂ (λ (v w : Bool). v || w) (textual_less g h.0) (textual_untagged gs h.1)

bare_closes : (own : List Glyph) → IsBareNode own → EachCloses own
bare_closes own n =
    let all : List Glyph = glyph.Byte n.first ∷ n.others in
    subst EachCloses (sym n.is) (untagged_closes all (textual_untagged all (all_textual all n.shape n.url (n.whole ∙ ap length n.is))))

-- ---- tags

whole_placed : (gs : List Glyph) → HasTag (tag_at gs) → len_of (tag_at gs) ≡ length gs → Placed gs
whole_placed [] h e = absurd (none_tagged h)
whole_placed (g ∷ gs) h e = by (tag_at (g ∷ gs)) refl h e
  where
    by : (o : Option Tag) → tag_at (g ∷ gs) ≡ o → HasTag o → len_of o ≡ length (g ∷ gs) → Placed (g ∷ gs)
    by None i y z = absurd y
    by (Some t) i y z = greater_placed (g ∷ gs) (tag_ends g gs t i z)

pair_placed : (t : Tag) (own : List Glyph) → IsPair t own → Placed own
pair_placed t own n =
    let r = partner_suffix (number n.name) 0 (drop t.len own) n.last n.closing in
    let last : Placed n.last = whole_placed n.last (partner_tag (number n.name) 0 (drop t.len own) n.last n.closing) n.ends in
    placed_drop t.len own (placed_drop r.0 (drop t.len own) (subst Placed (sym r.1) last))

tag_closes : (own : List Glyph) → IsTagNode own → EachCloses own
tag_closes own n =
    let all : List Glyph = glyph.Byte 60 ∷ n.others in
    subst EachCloses (sym n.is) (placed_closes all (elim n.ends [
      | inl whole ↦ greater_placed all (tag_ends (glyph.Byte 60) n.others n.named n.tagged whole)
      | inr pair ↦ pair_placed n.named all pair
    ]))

-- ---- other nodes

abbrev WordUntagged : List ℕ → Type 0
WordUntagged word = is_tagged (byte_glyphs (95 ∷ 95 ∷ word)) ≡ false

each_untagged : EachIs WordUntagged switch_names
unfolding switch_names
each_untagged = (refl, (refl, (refl, (refl, (refl, (refl, (refl, (refl, (refl, tt)))))))))

switch_closes : (own : List Glyph) → IsSwitchNode own → EachCloses own
switch_closes own n =
    let words : All WordUntagged switch_names = all_by WordUntagged switch_names each_untagged in
    subst EachCloses (sym n.is) (untagged_closes (byte_glyphs (95 ∷ 95 ∷ n.word)) (All-contains WordUntagged switch_names n.word words n.named))

delimiter_closes : (own : List Glyph) → IsDelimiter own → EachCloses own
delimiter_closes own n = elim n [
  | inl i ↦ subst EachCloses (sym i) (untagged_closes (byte_glyphs (codes "''")) refl)
  | inr i ↦ subst EachCloses (sym i) (untagged_closes (byte_glyphs (codes "'''")) refl)
]

lexeme_closes : (own : List Glyph) → IsOneLexeme own → EachCloses own
lexeme_closes own n = elim n [
  | inl i ↦ subst EachCloses (sym i) (untagged_closes (glyph.Atom ∷ []) refl)
  | inr i ↦ subst EachCloses (sym i.1) (untagged_closes (glyph.Entity i.0 ∷ []) refl)
]

other_closes : (own : List Glyph) → IsOneLexeme own ⊎ (IsTagNode own ⊎ (IsCategoryNode own ⊎ IsMediaNode own)) → EachCloses own
other_closes own n = elim n [
  | inl one ↦ lexeme_closes own one
  | inr other ↦ elim other [
    | inl tag ↦ tag_closes own tag
    | inr link ↦ elim link [
      | inl category ↦ category_closes own category
      | inr media ↦ media_closes own media
    ]
  ]
]

pub node_closes : (r : Role) (own : List Glyph) → IsNode r own → EachCloses own
node_closes Link own n = link_closes own n
node_closes External own n = external_closes own n
node_closes (Bare ends) own n = bare_closes own n
node_closes Switch own n = switch_closes own n
node_closes Toggle own n = delimiter_closes own n
node_closes (Mark ends began) own n = subst EachCloses (sym n) (untagged_closes (glyph.Mark ∷ []) refl)
node_closes (Group g) own n = absurd n
node_closes Function own n = lexeme_closes own n
node_closes Node own n = other_closes own n
