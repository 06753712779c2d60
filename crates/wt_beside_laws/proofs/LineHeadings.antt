-- A content of a heading is on one line, begins and ends with no blank, and keeps its level.
use Rattle.std.proofs.Common.{arith, ◌≡◌, ℕ, ◌<◌, ◌≤◌, ◌==◌, Bool, true, false, List, [], ◌∷◌, ◌++◌, length, map, refl, sym, ap, ◌∙◌, subst, append-nil, inl, inr, ◌⊎◌, All}
use Rattle.std.specs.Prelude.{◌||◌, if◌then◌else◌, encode_utf8}
use Rattle.std.proofs.lemmas.Bool.{cases_lt}
use Rattle.std.proofs.lemmas.Bool.Decides.{nat_tests}
use Rattle.std.proofs.lemmas.List.Elements.{All-head, All-tail}
use Rattle.std.proofs.lemmas.Str.{encode_ascii}
use Rattle.wt_span.specs.Bytes.{is_blank}
use Rattle.wt_span.specs.Items.{Item, char, whole, sign, is_mark}
use Rattle.wt_names.proofs.Ascii.{IsWide, encode_wide, encode_some}
use Rattle.wt_tree.specs.declared.edit_shape.Place.TheVariants as place
use Rattle.wt_guards.specs.Content.{ContentSign, letter, thing}
use Rattle.wt_guards.specs.Guards.{Setting, is_guarded, spelled}
use Rattle.wt_guards.specs.Letters.{is_escaped}
use Rattle.wt_typed_blocks.proofs.Lines.{end_guarded}
use Rattle.wt_typed_blocks.proofs.TextKinds.{OpensText}
use Rattle.wt_expand.specs.PageItems.{page_items}
use Rattle.wt_lines.specs.Lines.{IsUnbroken}
use Rattle.wt_text_edit_laws.specs.LonePages.{page_chars}
use Rattle.wt_text_edit_laws.specs.TypedHeadings.{Sides, AreBlanks, AreSides, IsOfLevel, NoBreaks, BeginsWithout, EndsWithout, is_equals_sign, IsHeadingInside}
use Rattle.wt_text_edit_laws.proofs.Headings.HeadingRows.{apart_level}
use Rattle.wt_text_edit_laws.proofs.Headings.TypedTexts.{end_by, no_equals, begins_other, begins_still, ends_still, ends_blank, ends_other, ends_behind as behind_other}
use Rattle.wt_beside_laws.specs.Content.{AreKept, guard_items, letter_items, content_items}
use Rattle.wt_beside_laws.specs.InHeadings.{AreOnOneLine, IsHeadingContent, LastEndsUnequal, IsSome, KeepsLevel}
use Rattle.wt_beside_laws.specs.Lines.{AreCharacters, AreUnbroken, line_items}
use Rattle.wt_beside_laws.specs.Nodes.{AreNodes}
use Rattle.wt_beside_laws.specs.Unjoined.{AllUnjoined}
use Rattle.wt_beside_laws.proofs.LineItems.{letter_unbroken}
use Rattle.wt_beside_laws.proofs.LineKinds.{Opens, OpensLed, led_line}
use Rattle.wt_beside_laws.proofs.NodeEnds.{EndInSigns, nodes_end, ends_unequal}
use Rattle.wt_beside_laws.proofs.Marks.Commented.{content_alone}
use Rattle.wt_beside_laws.proofs.Marks.Unjoined.{meet_unjoined}
use Rattle.wt_beside_laws.specs.NodeItems.{node_items}
use Rattle.wt_beside_laws.specs.Led.{AreMarksLed}

-- ---- one line

pub unbroken_both : (xs ys : List Item) → NoBreaks xs → NoBreaks ys → NoBreaks (xs ++ ys)
unbroken_both [] ys h k = k
unbroken_both (x ∷ xs) ys h k = (h.0, unbroken_both xs ys h.1 k)

pub none_by : (xs : List Item) → IsUnbroken xs → NoBreaks xs
none_by [] h = tt
none_by (x ∷ xs) h = (h.0, none_by xs h.1)

pub guard_none : (u : Bool) → NoBreaks (guard_items u)
guard_none true = (refl, tt)
guard_none false = tt

content_none : (s : Setting) (before signs : List ContentSign) → AreOnOneLine signs → AreUnbroken signs → NoBreaks (content_items s before signs)
content_none s before [] o u = guard_none (is_guarded s before [])
content_none s before (letter c ∷ after) o u =
    let e = is_escaped s.within s.place before c after in
    let more : List Item = content_items s (letter c ∷ before) after in
    unbroken_both (guard_items (is_guarded s before (letter c ∷ after))) (letter_items e c ++ more) (guard_none (is_guarded s before (letter c ∷ after)))
    (unbroken_both (letter_items e c) more (none_by (letter_items e c) (letter_unbroken e c o.0)) (content_none s (letter c ∷ before) after o.1 u))
content_none s before (thing t ∷ after) o u =
    let own : List Item = node_items t.source in
    let more : List Item = content_items s (thing t ∷ before) after in
    unbroken_both (guard_items (is_guarded s before (thing t ∷ after))) (own ++ more) (guard_none (is_guarded s before (thing t ∷ after)))
    (unbroken_both own more (none_by own u.0) (content_none s (thing t ∷ before) after o u.1))

pub same_items : (s : Setting) (before signs : List ContentSign) → AreOnOneLine signs → line_items s before signs ≡ content_items s before signs
same_items s before [] o = refl
same_items s before (letter c ∷ after) o =
    let guard : List Item = guard_items (is_guarded s before (letter c ∷ after)) in
    let own : List Item = letter_items (is_escaped s.within s.place before c after) c in
    ap (λ (t : Bool). guard ++ (if t then [] else own ++ line_items s (letter c ∷ before) after)) o.0
    ∙ ap (λ xs. guard ++ (own ++ xs)) (same_items s (letter c ∷ before) after o.1)
same_items s before (thing t ∷ after) o =
    ap (λ xs. guard_items (is_guarded s before (thing t ∷ after)) ++ (node_items t.source ++ xs)) (same_items s (thing t ∷ before) after o)

-- ---- what is first

neither : (b : ℕ) → OpensText b → is_blank b ≡ false
neither b o = ap (λ (t : Bool). t || (b == 9)) o.space ∙ o.tab

pub marked : (test : ℕ → Bool) (x : Item) → is_mark x ≡ true → test 257 ≡ false → test (sign x) ≡ false
marked test (char o b) m e = cc
marked test (whole f o bs) m e = ap (λ (v : Bool). test (if v then 257 else 256)) m ∙ e

pub begins_seen : (xs : List Item) → Opens xs → BeginsWithout is_blank (map sign xs)
begins_seen [] h = h
begins_seen (x ∷ xs) h = neither (sign x) h

-- a mark is no blank either
led_seen : (xs : List Item) → OpensLed xs → BeginsWithout is_blank (map sign xs)
led_seen [] h = h
led_seen (x ∷ xs) (inl m) = marked is_blank x m.0 refl
led_seen (x ∷ xs) (inr o) = neither (sign x) o

-- ---- what is last

abbrev pub SeenLast : List Item → Type 0
SeenLast xs = EndsWithout is_blank (map sign xs)

pub ends_behind : (q : ℕ → Bool) (xs ys : List Item) → EndsWithout q (map sign ys) → EndsWithout q (map sign (xs ++ ys))
ends_behind q [] ys h = h
ends_behind q (x ∷ []) [] h = absurd h
ends_behind q (x ∷ []) (y ∷ ys) h = h
ends_behind q (x ∷ z ∷ xs) ys h = ends_behind q (z ∷ xs) ys h

pub last_behind : (xs ys : List Item) → SeenLast ys → SeenLast (xs ++ ys)
last_behind xs ys h = ends_behind is_blank xs ys h

wide_last : (bs : List ℕ) → All IsWide bs → 0 < length bs → SeenLast (page_chars bs)
wide_last [] h some = absurd (omega (arith, some))
wide_last (b ∷ []) h some = not_blank b (All-head IsWide b [] h)
  where
    not_blank : (b : ℕ) → 128 ≤ b → is_blank b ≡ false
    not_blank b le = grind (arith, nat_tests)
wide_last (b ∷ c ∷ bs) h some = wide_last (c ∷ bs) (All-tail IsWide b (c ∷ bs) h) (omega arith)

pub letter_last : (e : Bool) (c : ℕ) → (e ≡ false → is_blank c ≡ false) → SeenLast (letter_items e c)
letter_last true c f = refl
letter_last false c f = elim (cases_lt c 128) [
  | inl small ↦ subst (λ bs. SeenLast (page_chars bs)) (sym (encode_ascii c small)) (f refl)
  | inr wide ↦ wide_last (encode_utf8 c) (encode_wide c wide) (encode_some c)
]

pub end_last : (u : Bool) (own : List Item) → (u ≡ false → SeenLast own) → SeenLast (own ++ guard_items u)
end_last true own f = last_behind own (guard_items true) refl
end_last false own f = subst SeenLast (sym (append-nil own)) (f refl)

content_last : (s : Setting) (before signs : List ContentSign) (own : List Item) → s.within ≡ false → s.place ≡ place.Heading → EndInSigns signs
    → (is_guarded s before [] ≡ false → SeenLast own) → SeenLast (own ++ content_items s before signs)
content_last s before [] own w p e f = end_last (is_guarded s before []) own f
content_last s before (letter c ∷ after) own w p e f =
    let t = is_escaped s.within s.place before c after in
    let next : List Item = letter_items t c in
    let more : List Item = content_items s (letter c ∷ before) after in
    let guard : List Item = guard_items (is_guarded s before (letter c ∷ after)) in
    last_behind own (guard ++ (next ++ more)) (last_behind guard (next ++ more)
    (content_last s (letter c ∷ before) after next w p e (λ z. letter_last t c (λ y. end_by s before c w p z))))
content_last s before (thing t ∷ after) own w p e f =
    let next : List Item = node_items t.source in
    let more : List Item = content_items s (thing t ∷ before) after in
    let guard : List Item = guard_items (is_guarded s before (thing t ∷ after)) in
    last_behind own (guard ++ (next ++ more)) (last_behind guard (next ++ more) (content_last s (thing t ∷ before) after next w p e.1 (λ z. e.0)))

-- ---- the content

pub inside_by : (s : Setting) (signs : List ContentSign) → s.within ≡ false → s.place ≡ place.Heading → AreKept signs → AreUnbroken signs → AreCharacters signs
    → AreNodes signs → AllUnjoined s [] signs → AreMarksLed s.place signs → AreOnOneLine signs → IsHeadingInside (page_items (spelled s signs))
inside_by s signs block head kept unbroken characters nodes unjoined led one =
    let is = content_alone s signs (record { within = block; kept = kept; nodes = nodes; unjoined = unjoined; led = led }) in
    subst IsHeadingInside (sym is)
    (record {
      unbroken = content_none s [] signs one unbroken;
      begins = subst (λ xs. BeginsWithout is_blank (map sign xs)) (same_items s [] signs one)
          (led_seen (line_items s [] signs) (led_line s [] signs block refl characters nodes));
      ends = content_last s [] signs [] block head (nodes_end signs nodes)
          (λ z. let no : true ≡ false = sym (end_guarded s [] block refl) ∙ z in cc);
    })

pub heading_inside : (s : Setting) (signs : List ContentSign) → IsHeadingContent s signs → IsHeadingInside (page_items (spelled s signs))
heading_inside s signs h =
    inside_by s signs h.flat.of_block h.of_heading h.flat.kept h.flat.unbroken h.flat.characters h.flat.nodes (meet_unjoined s [] signs h.flat.nodes h.flat.meet) h.flat.led
    h.one_line

-- ---- its level

abbrev pub UnequalLast : List Item → Type 0
UnequalLast xs = EndsWithout is_equals_sign (map sign xs)

wide_unequal : (bs : List ℕ) → All IsWide bs → 0 < length bs → UnequalLast (page_chars bs)
wide_unequal [] h some = absurd (omega (arith, some))
wide_unequal (b ∷ []) h some = not_equals b (All-head IsWide b [] h)
  where
    not_equals : (b : ℕ) → 128 ≤ b → is_equals_sign b ≡ false
    not_equals b le = grind (arith, nat_tests)
wide_unequal (b ∷ c ∷ bs) h some = wide_unequal (c ∷ bs) (All-tail IsWide b (c ∷ bs) h) (omega arith)

pub letter_unequal : (e : Bool) (c : ℕ) → (e ≡ false → is_equals_sign c ≡ false) → UnequalLast (letter_items e c)
letter_unequal true c f = refl
letter_unequal false c f = elim (cases_lt c 128) [
  | inl small ↦ subst (λ bs. UnequalLast (page_chars bs)) (sym (encode_ascii c small)) (f refl)
  | inr wide ↦ wide_unequal (encode_utf8 c) (encode_wide c wide) (encode_some c)
]

pub end_unequal : (u : Bool) (own : List Item) → UnequalLast own → UnequalLast (own ++ guard_items u)
end_unequal true own h = ends_behind is_equals_sign own (guard_items true) refl
end_unequal false own h = subst UnequalLast (sym (append-nil own)) h

content_unequal : (s : Setting) (before : List ContentSign) (next : ContentSign) (after : List ContentSign) → AreNodes (next ∷ after)
    → LastEndsUnequal (next ∷ after) → UnequalLast (content_items s before (next ∷ after))
content_unequal s before (letter c) [] n e =
    let t = is_escaped s.within s.place before c [] in
    let guard : List Item = guard_items (is_guarded s before (letter c ∷ [])) in
    let end : Bool = is_guarded s (letter c ∷ before) [] in
    ends_behind is_equals_sign guard (letter_items t c ++ guard_items end)
    (end_unequal end (letter_items t c) (letter_unequal t c (λ z. no_equals s.within s.place before c (is_equals_sign c) refl z)))
content_unequal s before (letter c) (d ∷ after) n e =
    let own : List Item = letter_items (is_escaped s.within s.place before c (d ∷ after)) c in
    let guard : List Item = guard_items (is_guarded s before (letter c ∷ d ∷ after)) in
    let more : List Item = content_items s (letter c ∷ before) (d ∷ after) in
    ends_behind is_equals_sign guard (own ++ more) (ends_behind is_equals_sign own more (content_unequal s (letter c ∷ before) d after n e))
content_unequal s before (thing t) [] n e =
    let guard : List Item = guard_items (is_guarded s before (thing t ∷ [])) in
    let end : Bool = is_guarded s (thing t ∷ before) [] in
    ends_behind is_equals_sign guard (node_items t.source ++ guard_items end) (end_unequal end (node_items t.source) (ends_unequal t n.0 e))
content_unequal s before (thing t) (d ∷ after) n e =
    let guard : List Item = guard_items (is_guarded s before (thing t ∷ d ∷ after)) in
    let more : List Item = content_items s (thing t ∷ before) (d ∷ after) in
    ends_behind is_equals_sign guard (node_items t.source ++ more)
    (ends_behind is_equals_sign (node_items t.source) more (content_unequal s (thing t ∷ before) d after n.1 e))

all_unequal : (s : Setting) (signs : List ContentSign) → s.within ≡ false → AreNodes signs → LastEndsUnequal signs → UnequalLast (content_items s [] signs)
all_unequal s [] w n e = subst (λ (u : Bool). UnequalLast (guard_items u)) (sym (end_guarded s [] w refl)) refl
all_unequal s (next ∷ after) w n e = content_unequal s [] next after n e

pub begins_unequal : (xs : List Item) → Opens xs → BeginsWithout is_equals_sign (map sign xs)
begins_unequal [] h = h
begins_unequal (x ∷ xs) h = grind (arith, nat_tests, h.equals)

pub led_unequal : (xs : List Item) → OpensLed xs → BeginsWithout is_equals_sign (map sign xs)
led_unequal [] h = h
led_unequal (x ∷ xs) (inl m) = marked is_equals_sign x m.0 refl
led_unequal (x ∷ xs) (inr o) = grind (arith, nat_tests, o.equals)

-- a blank parts them, or the content ends so
pub unequal_end : (ss trail : List ℕ) → AreBlanks trail → IsSome trail ⊎ EndsWithout is_equals_sign ss → EndsWithout is_equals_sign (ss ++ trail)
unequal_end ss [] a (inl h) = absurd h
unequal_end ss [] a (inr h) = ends_other ss [] a h
unequal_end ss (b ∷ bs) a h = ends_still ss b bs (ends_blank b bs a)

pub level_by : (s : Setting) (signs : List ContentSign) (sides : Sides) → s.within ≡ false → AreKept signs → AreCharacters signs → AreNodes signs
    → AllUnjoined s [] signs → AreMarksLed s.place signs → AreOnOneLine signs → AreSides sides → KeepsLevel sides signs → IsOfLevel sides (page_items (spelled s signs))
level_by s signs sides block kept characters nodes unjoined led one a k =
    let own : List Item = page_items (spelled s signs) in
    let is : own ≡ content_items s [] signs = content_alone s signs (record { within = block; kept = kept; nodes = nodes; unjoined = unjoined; led = led }) in
    let ss : List ℕ = map sign own in
    let begins : BeginsWithout is_equals_sign ss =
    subst (λ xs. BeginsWithout is_equals_sign (map sign xs)) (sym (is ∙ sym (same_items s [] signs one)))
    (led_unequal (line_items s [] signs) (led_line s [] signs block refl characters nodes)) in
    let last : IsSome sides.trail ⊎ EndsWithout is_equals_sign ss = elim k [
      | inl some ↦ inl some
      | inr ends ↦ inr (subst UnequalLast (sym is) (all_unequal s signs block nodes ends))
    ] in
    apart_level sides own a (record {
      first = begins_other sides.lead (ss ++ sides.trail) a.lead (begins_still ss sides.trail begins);
      last = behind_other sides.lead (ss ++ sides.trail) (unequal_end ss sides.trail a.trail last);
    })

pub content_level : (s : Setting) (signs : List ContentSign) (sides : Sides) → IsHeadingContent s signs → AreSides sides → KeepsLevel sides signs
    → IsOfLevel sides (page_items (spelled s signs))
content_level s signs sides h a k =
    level_by s signs sides h.flat.of_block h.flat.kept h.flat.characters h.flat.nodes (meet_unjoined s [] signs h.flat.nodes h.flat.meet) h.flat.led h.one_line a k
