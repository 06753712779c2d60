-- A tag that may go on behind a node that isn't tangled is one that isn't ended there, with a mark in it.
use Rattle.std.proofs.Common.{arith, ◌≡◌, ℕ, ◌==◌, Bool, true, false, None, List, [], ◌∷◌, ◌++◌, map, refl, sym, ap, ap₂, ◌∙◌, subst}
use Rattle.std.specs.Prelude.{◌&&◌, ◌||◌, not}
use Rattle.std.specs.Char.{is_ascii_alphabetic, is_ascii_alphanumeric}
use Rattle.std.specs.List.{list_any}
use Rattle.std.proofs.lemmas.Bool.Decides.{nat_tests}
use Rattle.wt_span.specs.declared.form.ItemForm.{ItemForm}
use Rattle.wt_span.specs.declared.form.ItemForm.TheVariants as form
use Rattle.wt_span.specs.Bytes.{is_blank}
use Rattle.wt_span.specs.Items.{Item, char, whole, source, sources}
use Rattle.wt_span.specs.Tags.{is_tag_byte}
use Rattle.wt_guards.specs.Content.{ContentSign, letter, thing}
use Rattle.wt_tiles.specs.declared.glyph.Glyph.{Glyph}
use Rattle.wt_tiles.specs.declared.glyph.Glyph.TheVariants as glyph
use Rattle.wt_tiles.specs.declared.glyph.GlyphClass.TheVariants as class
use Rattle.wt_tiles.specs.Glyphs.{glyph_of_form, glyph_of, in_class}
use Rattle.wt_isolation.specs.OpenTags.{is_stop}
use Rattle.wt_beside_laws.specs.Cuts.{own_glyphs}
use Rattle.wt_beside_laws.specs.NodeItems.{node_items}
use Rattle.wt_beside_laws.specs.Nodes.{AreNodes}
use Rattle.wt_beside_laws.specs.OpenTags.{has_other, has_stop, has_mark, is_open_tag, ends_in_tag}
use Rattle.wt_beside_laws.specs.PageBlocks.{AreShut}
use Rattle.wt_beside_laws.proofs.LinesClosed.{AllEndSo}
use Rattle.wt_beside_laws.proofs.LinesOpen.{neither}
use Rattle.wt_beside_laws.proofs.NodeItems.{node_sources}
use Rattle.wt_beside_laws.proofs.NodesClosed.{has_closer, EachCloses, node_closes}
use Rattle.wt_beside_laws.proofs.Own.Crossing.{AfterTag, TagsShut, tags_shut}
use Rattle.wt_beside_laws.proofs.PairTiles.{is_closing_glyph, may_go_on, tag_goes_on}
use Rattle.wt_beside_laws.proofs.ReferenceItems.{AllBare, node_bare}

-- ---- a tag of characters alone

unpassed : (v : Bool) → not (not v) ≡ false → v ≡ false
unpassed true e = cc
unpassed false e = refl

any_both : (xs ys : List ℕ) → list_any is_stop xs ≡ false → list_any is_stop ys ≡ false → list_any is_stop (xs ++ ys) ≡ false
any_both [] ys h k = k
any_both (x ∷ xs) ys h k =
    let z = neither (is_stop x) (list_any is_stop xs) h in ap₂ (λ (u v : Bool). u || v) z.0 (any_both xs ys z.1 k)

chars_bare : (ys : List Item) → AllBare ys → has_mark (map glyph_of ys) ≡ false → has_stop (map glyph_of ys) ≡ false → list_any is_stop (sources ys) ≡ false
chars_bare [] a h e = refl
chars_bare (char o c ∷ ys) a h e =
    let z = neither (not (is_tag_byte c)) (has_stop (map glyph_of ys)) e in
    ap₂ (λ (u v : Bool). u || v) (unpassed (is_stop c) z.0) (chars_bare ys a.1 h z.1)
chars_bare (whole (form.Entity c) o bs ∷ ys) a h e = any_both bs (sources ys) a.0 (chars_bare ys a.1 h e)
chars_bare (whole form.Chars o bs ∷ ys) a h e = cc
chars_bare (whole form.Nowiki o bs ∷ ys) a h e = cc
chars_bare (whole form.Extension o bs ∷ ys) a h e = cc
chars_bare (whole form.Function o bs ∷ ys) a h e = cc
chars_bare (whole form.Comment o bs ∷ ys) a h e = cc
chars_bare (whole form.Include o bs ∷ ys) a h e = cc
chars_bare (whole form.Hidden o bs ∷ ys) a h e = cc
chars_bare (whole form.EmptyCall o bs ∷ ys) a h e = cc

-- ---- behind a `<`

closer_no : (b : ℕ) → (b == 93 || b == 62) ≡ true → (is_ascii_alphanumeric b || is_blank b) ≡ false
closer_no b e = grind (arith, nat_tests, e)

closer_apart : (g : Glyph) → (in_class (class.Only 93) g || in_class (class.Only 62) g) ≡ true → is_closing_glyph g ≡ false
closer_apart (glyph.Byte b) e = closer_no b e
closer_apart (glyph.Entity c) e = cc
closer_apart glyph.Atom e = cc
closer_apart glyph.Mark e = cc

or_right : (a b : Bool) → b ≡ true → (a || b) ≡ true
or_right true b e = refl
or_right false b e = e

closer_other : (gs : List Glyph) → has_closer gs ≡ true → has_other is_closing_glyph gs ≡ true
closer_other [] e = cc
closer_other (g ∷ gs) e = by (in_class (class.Only 93) g || in_class (class.Only 62) g) refl e (λ f. closer_other gs f)
  where
    by : (v : Bool) → (in_class (class.Only 93) g || in_class (class.Only 62) g) ≡ v → (v || has_closer gs) ≡ true
        → (has_closer gs ≡ true → has_other is_closing_glyph gs ≡ true) → has_other is_closing_glyph (g ∷ gs) ≡ true
    by true i f go = ap (λ (v : Bool). not v || has_other is_closing_glyph gs) (closer_apart g i)
    by false i f go = or_right (not (is_closing_glyph g)) (has_other is_closing_glyph gs) (go f)

letter_ends : (b : ℕ) (ys : List Item) → AllBare ys → AfterTag (b ∷ sources ys) → is_open_tag (map glyph_of (char None b ∷ ys)) ≡ false
    → (is_ascii_alphabetic b && not (has_stop (glyph.Byte b ∷ map glyph_of ys))) ≡ false
letter_ends b ys a s e =
    by (is_ascii_alphabetic b) (has_stop (glyph.Byte b ∷ map glyph_of ys)) (has_mark (map glyph_of ys)) refl refl refl e
  where
    by : (u v w : Bool) → is_ascii_alphabetic b ≡ u → has_stop (glyph.Byte b ∷ map glyph_of ys) ≡ v → has_mark (map glyph_of ys) ≡ w
        → (u && (not v && w)) ≡ false → (u && not v) ≡ false
    by false v w i j k f = refl
    by true true w i j k f = refl
    by true false true i j k f = cc
    by true false false i j k f =
        let no : true ≡ false = sym (s i) ∙ chars_bare (char None b ∷ ys) (tt, a) k j in cc

slash_ends : (b : ℕ) (gs : List Glyph) → has_closer (glyph.Byte b ∷ gs) ≡ true → ((b == 47) && not (has_other is_closing_glyph gs)) ≡ false
slash_ends b gs c = by (b == 47) refl
  where
    slash_apart : (b == 47) ≡ true → (b == 93 || b == 62) ≡ false
    slash_apart i = grind (arith, nat_tests, i)

    by : (v : Bool) → (b == 47) ≡ v → (v && not (has_other is_closing_glyph gs)) ≡ false
    by false i = refl
    by true i = ap not (closer_other gs (ap (λ (v : Bool). v || has_closer gs) (sym (slash_apart i)) ∙ c))

no_letter : (f : ItemForm) → in_class class.Letter (glyph_of_form f) ≡ false
no_letter form.Chars = refl
no_letter (form.Entity c) = refl
no_letter form.Nowiki = refl
no_letter form.Extension = refl
no_letter form.Function = refl
no_letter form.Comment = refl
no_letter form.Include = refl
no_letter form.Hidden = refl
no_letter form.EmptyCall = refl

no_byte : (c : ℕ) (f : ItemForm) → in_class (class.Only c) (glyph_of_form f) ≡ false
no_byte c form.Chars = refl
no_byte c (form.Entity d) = refl
no_byte c form.Nowiki = refl
no_byte c form.Extension = refl
no_byte c form.Function = refl
no_byte c form.Comment = refl
no_byte c form.Include = refl
no_byte c form.Hidden = refl
no_byte c form.EmptyCall = refl

behind : (xs : List Item) → AllBare xs → has_closer (map glyph_of xs) ≡ true → AfterTag (sources xs) → is_open_tag (map glyph_of xs) ≡ false → may_go_on (map glyph_of xs) ≡ false
behind [] a c s e = cc
behind (char o b ∷ ys) a c s e = ap₂ (λ (u v : Bool). u || v) (letter_ends b ys a.1 s e) (slash_ends b (map glyph_of ys) c)
behind (whole f o bs ∷ ys) a c s e =
    let gs : List Glyph = map glyph_of ys in
    ap₂ (λ (u v : Bool). (u && not (has_stop (glyph_of_form f ∷ gs))) || (v && not (has_other is_closing_glyph gs))) (no_letter f) (no_byte 47 f)

-- ---- a node

here : (x : Item) (xs : List Item) → AllBare xs → (in_class (class.Only 60) (glyph_of x) ≡ true → has_closer (map glyph_of xs) ≡ true) → TagsShut (source x ++ sources xs)
    → (in_class (class.Only 60) (glyph_of x) && is_open_tag (map glyph_of xs)) ≡ false → (in_class (class.Only 60) (glyph_of x) && may_go_on (map glyph_of xs)) ≡ false
here (char o b) xs a c s e = by (b == 60) refl
  where
    by : (v : Bool) → (b == 60) ≡ v → (v && may_go_on (map glyph_of xs)) ≡ false
    by false i = refl
    by true i = behind xs a (c i) (s.0 i) (ap (λ (v : Bool). v && is_open_tag (map glyph_of xs)) (sym i) ∙ e)
here (whole f o bs) xs a c s e = ap (λ (v : Bool). v && may_go_on (map glyph_of xs)) (no_byte 60 f)

shut_past : (bs cs : List ℕ) → TagsShut (bs ++ cs) → TagsShut cs
shut_past [] cs h = h
shut_past (b ∷ bs) cs h = shut_past bs cs h.1

none_goes : (xs : List Item) → AllBare xs → EachCloses (map glyph_of xs) → TagsShut (sources xs) → ends_in_tag (map glyph_of xs) ≡ false → tag_goes_on (map glyph_of xs) ≡ false
none_goes [] a c s e = refl
none_goes (x ∷ xs) a c s e =
    let z = neither (in_class (class.Only 60) (glyph_of x) && is_open_tag (map glyph_of xs)) (ends_in_tag (map glyph_of xs)) e in
    ap₂ (λ (u v : Bool). u || v) (here x xs a.1 c.0 s z.0) (none_goes xs a.1 c.1 (shut_past (source x) (sources xs) s) z.1)

pub all_end_so : (signs : List ContentSign) → AreNodes signs → AreShut signs → AllEndSo signs
all_end_so [] n h = tt
all_end_so (letter c ∷ after) n h = all_end_so after n h
all_end_so (thing t ∷ after) n h = (
  none_goes (node_items t.source) (node_bare t.source) (node_closes t.role (own_glyphs t) n.0) (subst TagsShut (sym (node_sources t.source)) (tags_shut t.source h.0)),
  all_end_so after n.1 h.1,
)
