-- A content beside nodes is UTF-8 where they are, and has the braces side by side that they have: where they bring none, it calls nothing.
use Rattle.std.proofs.Common.{arith, ◌≡◌, ◌⊎◌, ℕ, ◌≤◌, ◌==◌, Bool, true, false, Some, None, List, [], ◌∷◌, ◌++◌, map, refl, sym, ap, ap₂, ◌∙◌, subst, inl, inr, All}
use Rattle.std.specs.Prelude.{◌||◌, encode_utf8}
use Rattle.std.specs.Char.{IsScalar}
use Rattle.std.specs.Fmt.{digits}
use Rattle.std.specs.Str.{IsUtf8}
use Rattle.std.proofs.lemmas.Bool.{cases_lt, eqb-true}
use Rattle.std.proofs.lemmas.Bool.Decides.{nat_tests}
use Rattle.std.proofs.lemmas.List.Elements.{All-head, All-tail}
use Rattle.std.proofs.lemmas.Str.{encode_ascii, IsUtf8-append, IsUtf8-nil, IsUtf8-encode}
use Rattle.wt_span.specs.declared.form.ItemForm.TheVariants as form
use Rattle.wt_span.specs.Items.{Item, char, whole, sign}
use Rattle.wt_names.proofs.Ascii.{IsWide, encode_wide}
use Rattle.wt_guards.specs.declared.role.Role.{Role}
use Rattle.wt_guards.specs.declared.role.Role.TheVariants.{Link, External, Bare, Switch, Toggle, Mark, Group, Function, Node}
use Rattle.wt_guards.specs.Content.{ContentSign, Thing, letter, thing}
use Rattle.wt_guards.specs.Guards.{Setting, nowiki, nowiki_if, is_guarded, spelled_from, spelled}
use Rattle.wt_guards.specs.Letters.{is_bracket, is_escaped, reference, written_by}
use Rattle.wt_guards.proofs.Escapes.{is_escapable, escapable, each_escapable}
use Rattle.wt_tiles.specs.declared.glyph.Glyph.{Glyph}
use Rattle.wt_tiles.specs.declared.glyph.Glyph.TheVariants as glyph
use Rattle.wt_tiles.specs.declared.shape.Shape.{Shape}
use Rattle.wt_tiles.specs.Glyphs.{glyph_of}
use Rattle.wt_tiles.specs.Urls.{bare_url_at}
use Rattle.wt_typed_blocks.proofs.TextReads.{bracket_escaped, not_bracket}
use Rattle.wt_expand.specs.PageItems.{page_items}
use Rattle.wt_expand.specs.PageCalls.{expanded_page}
use Rattle.wt_expand.specs.Work.{Pages, first_refusal}
use Rattle.wt_expand.specs.Expansion.{page_work}
use Rattle.wt_text_edit_laws.specs.LonePages.{page_chars, of_items}
use Rattle.wt_text_edit_laws.specs.NoCalls.{Brace, NonePairs, CallsNothing, AreUnpaired, is_brace, AreUnbraced, braces_of}
use Rattle.wt_text_edit_laws.specs.ReadContents.{BeginsUnclosed}
use Rattle.wt_text_edit_laws.proofs.Blocks.SignBraces.{items_unclosed}
use Rattle.wt_text_edit_laws.proofs.Between.LessBraces.{BeginsUnbraced, items_before_start, whole_sign, none_unbraced, unbraced_begins}
use Rattle.wt_text_edit_laws.proofs.Between.NoCalls.{calm_expanded, calm_unrefused}
use Rattle.wt_beside_laws.specs.Calm.{IsCalm, AreCalm, AreUtf8Nodes}
use Rattle.wt_beside_laws.specs.Content.{guard_items, letter_items, content_items}
use Rattle.wt_beside_laws.specs.Lines.{AreCharacters}
use Rattle.wt_beside_laws.specs.Nodes.{IsDelimiter, IsTagNode, IsCategoryNode, IsMediaNode, IsOneLexeme, IsNode, AreNodes}
use Rattle.wt_beside_laws.proofs.NodesBegin.{no_url}
use Rattle.wt_beside_laws.proofs.Contents.{nowiki_reads, reference_reads}
use Rattle.wt_beside_laws.proofs.NodeItems.{node_as}
use Rattle.wt_beside_laws.proofs.Marks.Commented.{content_alone}
use Rattle.wt_beside_laws.specs.Flat.{IsReadIn}
use Rattle.wt_beside_laws.specs.NodeItems.{node_items}
use Rattle.wt_beside_laws.specs.Stood.{things}

-- ---- UTF-8

pub guard_utf8 : (guarded : Bool) → IsUtf8 (nowiki_if guarded)
unfolding nowiki lib.Utf8.encode
guard_utf8 true = (nowiki, (refl, refl))
guard_utf8 false = IsUtf8-nil

reference_utf8 : (c : ℕ) → is_escapable c ≡ true → IsUtf8 (reference c)
unfolding reference digits lib.Utf8.encode
reference_utf8 c e = each_escapable (λ k. IsUtf8 (reference k))
    (reference 91, (refl, refl)) (reference 93, (refl, refl)) (reference 123, (refl, refl)) (reference 125, (refl, refl)) (reference 124, (refl, refl))
    (reference 62, (refl, refl)) (reference 60, (refl, refl)) (reference 38, (refl, refl)) (reference 39, (refl, refl)) (reference 95, (refl, refl))
    (reference 58, (refl, refl)) (reference 61, (refl, refl)) (reference 33, (refl, refl)) c e

pub letter_utf8 : (s : Setting) (before after : List ContentSign) (c : ℕ) (t : Bool) → is_escaped s.within s.place before c after ≡ t → IsScalar c
    → IsUtf8 (written_by t c)
letter_utf8 s before after c true e h = reference_utf8 c (escapable s.within s.place before c after e)
letter_utf8 s before after c false e h = IsUtf8-encode c h

from_utf8 : (s : Setting) (before signs : List ContentSign) → AreCharacters signs → AreUtf8Nodes signs → IsUtf8 (spelled_from s before signs)
from_utf8 s before [] v h = guard_utf8 (is_guarded s before [])
from_utf8 s before (letter c ∷ after) v h =
    let e : Bool = is_escaped s.within s.place before c after in
    let rest : List ℕ = spelled_from s (letter c ∷ before) after in
    IsUtf8-append (nowiki_if (is_guarded s before (letter c ∷ after))) (written_by e c ++ rest) (guard_utf8 (is_guarded s before (letter c ∷ after)))
    (IsUtf8-append (written_by e c) rest (letter_utf8 s before after c e refl v.0) (from_utf8 s (letter c ∷ before) after v.1 h))
from_utf8 s before (thing t ∷ after) v h =
    let rest : List ℕ = spelled_from s (thing t ∷ before) after in
    IsUtf8-append (nowiki_if (is_guarded s before (thing t ∷ after))) (t.source ++ rest) (guard_utf8 (is_guarded s before (thing t ∷ after)))
    (IsUtf8-append t.source rest h.0 (from_utf8 s (thing t ∷ before) after v h.1))

pub content_utf8 : (s : Setting) (signs : List ContentSign) → AreCharacters signs → AreUtf8Nodes signs → IsUtf8 (spelled s signs)
content_utf8 s signs v h = from_utf8 s [] signs v h

pub calm_utf8 : (signs : List ContentSign) → AreCalm signs → AreUtf8Nodes signs
calm_utf8 [] h = tt
calm_utf8 (letter c ∷ after) h = calm_utf8 after h
calm_utf8 (thing t ∷ after) h = (h.0.utf8, calm_utf8 after h.1)

-- ---- braces

-- these are side by side, two and two, and none is first
record Braced (xs : List Item) (bs : List Brace) : Type 0 where
  is : braces_of xs ≡ bs
  begins : BeginsUnbraced (map sign xs)

begins_both : (xs ys : List Item) → BeginsUnbraced (map sign xs) → BeginsUnbraced (map sign ys) → BeginsUnbraced (map sign (xs ++ ys))
begins_both [] ys h k = k
begins_both (x ∷ xs) ys h k = h

both_braced : (xs ys : List Item) (bs cs : List Brace) → Braced xs bs → Braced ys cs → Braced (xs ++ ys) (bs ++ cs)
both_braced xs ys bs cs h k = record {
  is = items_before_start xs ys k.begins ∙ ap₂ (λ (us vs : List Brace). us ++ vs) h.is k.is;
  begins = begins_both xs ys h.begins k.begins;
}

unbraced_so : (xs : List Item) → AreUnbraced xs → Braced xs []
unbraced_so xs h = record { is = none_unbraced xs h; begins = unbraced_begins xs h }

guard_none : (u : Bool) → Braced (guard_items u) []
guard_none true = unbraced_so (guard_items true) tt
guard_none false = unbraced_so [] tt

no_brace : (c : ℕ) → is_bracket c ≡ false → is_brace c ≡ false
no_brace c h = parts (c == 91) (c == 93) (c == 123) (c == 125) (c == 124) (c == 62) h
  where
    parts : (a b d e f g : Bool) → (a || (b || (d || (e || (f || g))))) ≡ false → (d || e) ≡ false
    parts false false false false f g i = refl
    parts false false false true f g i = absurd (cc)
    parts false false true e f g i = absurd (cc)
    parts false true d e f g i = absurd (cc)
    parts true b d e f g i = absurd (cc)

wide_brace : (b : ℕ) → 128 ≤ b → is_brace b ≡ false
wide_brace b le = grind (arith, nat_tests)

wide_none : (bs : List ℕ) → All IsWide bs → AreUnbraced (page_chars bs)
wide_none [] h = tt
wide_none (b ∷ bs) h = (wide_brace b (All-head IsWide b bs h), wide_none bs (All-tail IsWide b bs h))

letter_unbraced : (e : Bool) (c : ℕ) → (e ≡ false → is_bracket c ≡ false) → AreUnbraced (letter_items e c)
letter_unbraced true c f = tt
letter_unbraced false c f = elim (cases_lt c 128) [
  | inl small ↦ subst (λ bs. AreUnbraced (page_chars bs)) (sym (encode_ascii c small)) (no_brace c (f refl), tt)
  | inr wide ↦ wide_none (encode_utf8 c) (encode_wide c wide)
]

letter_none : (e : Bool) (c : ℕ) → (e ≡ false → is_bracket c ≡ false) → Braced (letter_items e c) []
letter_none e c f = unbraced_so (letter_items e c) (letter_unbraced e c f)

-- ---- no node begins with a brace

abbrev FirstUnbraced : List Glyph → Type 0
FirstUnbraced [] = Unit {0}
FirstUnbraced (glyph.Byte b ∷ gs) = is_brace b ≡ false
FirstUnbraced (glyph.Entity c ∷ gs) = Unit {0}
FirstUnbraced (glyph.Atom ∷ gs) = Unit {0}
FirstUnbraced (glyph.Mark ∷ gs) = Unit {0}

first_begins : (xs : List Item) → FirstUnbraced (map glyph_of xs) → BeginsUnbraced (map sign xs)
first_begins [] h = tt
first_begins (char o b ∷ xs) h = h
first_begins (whole f o bs ∷ xs) h = whole_sign f

url_unbraced : (b : ℕ) (gs : List Glyph) (w : Shape) → bare_url_at false (glyph.Byte b ∷ gs) ≡ Some w → is_brace b ≡ false
url_unbraced b gs w is = by (b == 123) (b == 125) refl refl
  where
    at : (c : ℕ) → (b == c) ≡ true → bare_url_at false (glyph.Byte c ∷ gs) ≡ Some w
    at c e = subst (λ (k : ℕ). bare_url_at false (glyph.Byte k ∷ gs) ≡ Some w) (eqb-true b c e) is

    by : (u v : Bool) → (b == 123) ≡ u → (b == 125) ≡ v → (u || v) ≡ false
    by true v e f = let no : true ≡ false = no_url 123 gs w refl refl (at 123 e) in cc
    by false true e f = let no : true ≡ false = no_url 125 gs w refl refl (at 125 f) in cc
    by false false e f = refl

lexeme_first : (own : List Glyph) → IsOneLexeme own → FirstUnbraced own
lexeme_first own n = elim n [
  | inl i ↦ subst FirstUnbraced (sym i) tt
  | inr i ↦ subst FirstUnbraced (sym i.1) tt
]

delimiter_first : (own : List Glyph) → IsDelimiter own → FirstUnbraced own
delimiter_first own n = elim n [
  | inl i ↦ subst FirstUnbraced (sym i) refl
  | inr i ↦ subst FirstUnbraced (sym i) refl
]

other_first : (own : List Glyph) → IsOneLexeme own ⊎ (IsTagNode own ⊎ (IsCategoryNode own ⊎ IsMediaNode own)) → FirstUnbraced own
other_first own n = elim n [
  | inl one ↦ lexeme_first own one
  | inr other ↦ elim other [
    | inl tag ↦ subst FirstUnbraced (sym tag.is) refl
    | inr link ↦ elim link [
      | inl category ↦ subst FirstUnbraced (sym category.is) refl
      | inr media ↦ subst FirstUnbraced (sym media.is) refl
    ]
  ]
]

node_first : (r : Role) (own : List Glyph) → IsNode r own → FirstUnbraced own
node_first Link own n = subst FirstUnbraced (sym n.is) refl
node_first External own n = subst FirstUnbraced (sym n.is) refl
node_first (Bare ends) own n = subst FirstUnbraced (sym n.is) (url_unbraced n.first n.others n.shape n.url)
node_first Switch own n = subst FirstUnbraced (sym n.is) refl
node_first Toggle own n = delimiter_first own n
node_first (Mark ends began) own n = subst FirstUnbraced (sym n) tt
node_first (Group g) own n = absurd n
node_first Function own n = lexeme_first own n
node_first Node own n = other_first own n

-- ---- a content

-- of nodes, one after the other
abbrev pub braces_in : List Thing → List Brace
braces_in [] = []
braces_in (t ∷ ts) = braces_of (node_items t.source) ++ braces_in ts

content_braced : (s : Setting) (before signs : List ContentSign) → AreNodes signs → Braced (content_items s before signs) (braces_in (things signs))
content_braced s before [] n = guard_none (is_guarded s before [])
content_braced s before (letter c ∷ after) n =
    let e : Bool = is_escaped s.within s.place before c after in
    let own : List Item = letter_items e c in
    let more : List Item = content_items s (letter c ∷ before) after in
    both_braced (guard_items (is_guarded s before (letter c ∷ after))) (own ++ more) [] (braces_in (things after)) (guard_none (is_guarded s before (letter c ∷ after)))
    (both_braced own more [] (braces_in (things after)) (letter_none e c (λ f. not_bracket (is_bracket c) e (bracket_escaped s.within s.place before c after) f))
    (content_braced s (letter c ∷ before) after n))
content_braced s before (thing t ∷ after) n =
    let own : List Item = node_items t.source in
    let more : List Item = content_items s (thing t ∷ before) after in
    let one : Braced own (braces_of own) = record { is = refl; begins = first_begins own (node_first t.role (map glyph_of own) n.0) } in
    both_braced (guard_items (is_guarded s before (thing t ∷ after))) (own ++ more) [] (braces_of own ++ braces_in (things after))
    (guard_none (is_guarded s before (thing t ∷ after)))
    (both_braced own more (braces_of own) (braces_in (things after)) one (content_braced s (thing t ∷ before) after n.1))

-- a content has those of its nodes
pub content_braces : (s : Setting) (signs : List ContentSign) → IsReadIn s signs → braces_of (page_items (spelled s signs)) ≡ braces_in (things signs)
content_braces s signs k = let own = content_braced s [] signs k.nodes in ap braces_of (content_alone s signs k) ∙ own.is

calm_none : (signs : List ContentSign) → AreCalm signs → braces_in (things signs) ≡ []
calm_none [] h = refl
calm_none (letter c ∷ after) h = calm_none after h
calm_none (thing t ∷ after) h = ap₂ (λ (us vs : List Brace). us ++ vs) h.0.unpaired (calm_none after h.1)

content_unpaired : (s : Setting) (signs : List ContentSign) → IsReadIn s signs → AreCalm signs → AreUnpaired (page_items (spelled s signs))
content_unpaired s signs k h = content_braces s signs k ∙ calm_none signs h

-- it begins with no `}`
pub content_unclosed : (s : Setting) (signs : List ContentSign) → IsReadIn s signs → BeginsUnclosed (spelled s signs)
content_unclosed s signs k =
    let own = content_braced s [] signs k.nodes in
    items_unclosed (spelled s signs) (subst (λ (xs : List Item). BeginsUnbraced (map sign xs)) (sym (content_alone s signs k)) own.begins)

pub content_calm : (s : Setting) (signs : List ContentSign) → IsReadIn s signs → AreCalm signs → CallsNothing (page_items (spelled s signs))
content_calm s signs k h = subst NonePairs (sym (content_unpaired s signs k h)) tt

pub content_expanded : (pages : Pages) (s : Setting) (signs : List ContentSign) → IsReadIn s signs → AreCalm signs
    → expanded_page pages (spelled s signs) ≡ of_items (page_items (spelled s signs))
content_expanded pages s signs k h = calm_expanded pages (spelled s signs) (content_calm s signs k h)

pub content_unrefused : (pages : Pages) (s : Setting) (signs : List ContentSign) → IsReadIn s signs → AreCalm signs
    → first_refusal pages (spelled s signs) (page_work pages (spelled s signs)) ≡ None
content_unrefused pages s signs k h = calm_unrefused pages (spelled s signs) (content_calm s signs k h)

-- ---- what is put

pub nowiki_calm : IsCalm nowiki
nowiki_calm = record {
  utf8 = guard_utf8 true;
  unpaired = subst AreUnpaired (sym (node_as nowiki (whole form.Nowiki None nowiki ∷ []) nowiki_reads)) refl;
}

pub reference_calm : (c : ℕ) → is_escapable c ≡ true → IsCalm (reference c)
reference_calm c e = record {
  utf8 = reference_utf8 c e;
  unpaired = subst AreUnpaired (sym (node_as (reference c) (whole (form.Entity c) None (reference c) ∷ []) (reference_reads c e))) refl;
}
