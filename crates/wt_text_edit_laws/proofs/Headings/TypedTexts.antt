-- A text as the content of a heading spells it is one line, and neither a blank nor a `=` is at its ends.
use Rattle.std.proofs.Common.{arith, ◌≡◌, ℕ, ◌<◌, ◌≤◌, Bool, true, false, not, Some, None, List, [], ◌∷◌, ◌++◌, length, map, refl, sym, ap, ◌∙◌, subst, append-nil, All, inl, inr, length-append}
use Rattle.std.specs.Prelude.{◌==◌, ◌&&◌, ◌||◌, encode_utf8}
use Rattle.std.proofs.Math.Utf8.{encodes}
use Rattle.std.specs.Fmt.{digits}
use Rattle.std.specs.Str.{chars, IsUtf8}
use Rattle.std.proofs.lemmas.Bool.{cases_lt}
use Rattle.std.proofs.lemmas.Bool.Decides.{nat_tests}
use Rattle.std.proofs.lemmas.Str.{encode_ascii, encodes-chars}
use Rattle.std.proofs.lemmas.List.Elements.{All-head, All-tail}
use Rattle.wt_span.specs.declared.form.ItemForm.{ItemForm}
use Rattle.wt_span.specs.declared.form.ItemForm.TheVariants as form
use Rattle.wt_span.specs.Bytes.{is_break, is_blank}
use Rattle.wt_span.specs.Items.{Item, char, whole, sign, source, sources}
use Rattle.wt_names.proofs.Ascii.{IsWide, encode_wide, encode_some}
use Rattle.wt_tree.specs.declared.edit_shape.Place.{Place}
use Rattle.wt_tree.specs.declared.edit_shape.Place.TheVariants as place
use Rattle.wt_guards.specs.Content.{ContentSign, letter, letters}
use Rattle.wt_guards.specs.Letters.{is_escaped, reference, written_by}
use Rattle.wt_guards.specs.Table.{line_start_hazard}
use Rattle.wt_guards.specs.Guards.{Setting, nowiki, nowiki_if, is_between_guard, is_start_guard, is_end_guard, is_blank_guard, is_guarded, is_unended, is_content_end_guard, is_line_start, is_empty_line, is_line_mark_next, is_new_next, spelled_from, spelled}
use Rattle.wt_guards.proofs.Escapes.{is_escapable, each_escapable, escapable}
use Rattle.wt_content.specs.Content.{has_break}
use Rattle.wt_expand.specs.PageItems.{page_items}
use Rattle.wt_expand.proofs.PageLaws.{page_sources}
use Rattle.wt_tiles.specs.Contexts.{in_line}
use Rattle.wt_inline.specs.declared.loose.Loose.TheVariants.{Text}
use Rattle.wt_inline.specs.Parts.{parts}
use Rattle.wt_context.specs.Line.{most_contexts, context_parts, line_parts}
use Rattle.wt_text_edit_laws.specs.StillItems.{StillItems}
use Rattle.wt_text_edit_laws.proofs.Texts.StillLines.{still_within}
use Rattle.wt_text_edit_laws.proofs.Texts.TypedItems.{typed_still, typed_own}
use Rattle.wt_text_edit_laws.proofs.Texts.TypedLeaves.{AreOwn}
use Rattle.wt_text_edit_laws.specs.TypedHeadings.{Sides, AreBlanks, AreSides, NoBreaks, BeginsWithout, EndsWithout, IsHeadingText, is_equals_sign, StandsApart}

-- ---- bytes

abbrev pub has_line : List ℕ → Bool
has_line [] = false
has_line (b ∷ bs) = is_break b || has_line bs

-- a blank or a `=`
abbrev is_side : ℕ → Bool
is_side b = is_blank b || b == 61

-- something else is first, or last
abbrev first_seen : List ℕ → Bool
first_seen [] = false
first_seen (b ∷ bs) = not (is_side b)

abbrev last_seen : List ℕ → Bool
last_seen [] = true
last_seen (b ∷ []) = not (is_side b)
last_seen (b ∷ c ∷ cs) = last_seen (c ∷ cs)

none_of : (a b : Bool) → a ≡ false → b ≡ false → (a || b) ≡ false
none_of false false e f = refl
none_of true b e f = cc
none_of false true e f = cc

left_false : (a b : Bool) → (a || b) ≡ false → a ≡ false
left_false false b e = refl
left_false true b e = cc

right_false : (a b : Bool) → (a || b) ≡ false → b ≡ false
right_false false b e = e
right_false true b e = cc

lines_joined : (bs cs : List ℕ) → has_line bs ≡ false → has_line cs ≡ false → has_line (bs ++ cs) ≡ false
lines_joined [] cs e f = f
lines_joined (b ∷ bs) cs e f =
    none_of (is_break b) (has_line (bs ++ cs)) (left_false (is_break b) (has_line bs) e) (lines_joined bs cs (right_false (is_break b) (has_line bs) e) f)

line_rest : (bs cs : List ℕ) → has_line (bs ++ cs) ≡ false → has_line cs ≡ false
line_rest [] cs e = e
line_rest (b ∷ bs) cs e = line_rest bs cs (right_false (is_break b) (has_line (bs ++ cs)) e)

first_joined : (bs cs : List ℕ) → first_seen bs ≡ true → first_seen (bs ++ cs) ≡ true
first_joined [] cs e = cc
first_joined (b ∷ bs) cs e = e

last_rest : (bs cs : List ℕ) → last_seen (bs ++ cs) ≡ true → last_seen cs ≡ true
last_rest [] cs e = e
last_rest (b ∷ bs) [] e = refl
last_rest (b ∷ []) (c ∷ cs) e = e
last_rest (b ∷ d ∷ bs) (c ∷ cs) e = last_rest (d ∷ bs) (c ∷ cs) e

last_some : (bs : List ℕ) (c : ℕ) (cs : List ℕ) → last_seen (bs ++ c ∷ cs) ≡ last_seen (c ∷ cs)
last_some [] c cs = refl
last_some (b ∷ []) c cs = refl
last_some (b ∷ d ∷ bs) c cs = last_some (d ∷ bs) c cs

-- the last of all is that of the second, unless it is empty
last_joined : (bs cs : List ℕ) → (cs ≡ [] → last_seen bs ≡ true) → last_seen cs ≡ true → last_seen (bs ++ cs) ≡ true
last_joined bs [] f e = ap last_seen (append-nil bs) ∙ f refl
last_joined bs (c ∷ cs) f e = last_some bs c cs ∙ e

-- ---- items with these bytes

own_unbroken : (xs : List Item) → AreOwn xs → has_line (sources xs) ≡ false → NoBreaks xs
own_unbroken [] h e = tt
own_unbroken (char None b ∷ xs) h e =
    (left_false (is_break b) (has_line (sources xs)) e, own_unbroken xs h (right_false (is_break b) (has_line (sources xs)) e))
own_unbroken (char (Some k) b ∷ xs) h e = absurd h
own_unbroken (whole f None bs ∷ xs) h e = (refl, own_unbroken xs h.1 (line_rest bs (sources xs) e))
own_unbroken (whole f (Some k) bs ∷ xs) h e = absurd h

negated : (v : Bool) → not v ≡ true → v ≡ false
negated true e = cc
negated false e = refl

-- what has this sign is neither a blank nor a `=`
abbrev IsSeen : ℕ → Type 0
IsSeen s = (is_blank s ≡ false) × ((s == 61) ≡ false)

char_seen : (b : ℕ) → not (is_side b) ≡ true → IsSeen b
char_seen b e = let f : is_side b ≡ false = negated (is_side b) e in (left_false (is_blank b) (b == 61) f, right_false (is_blank b) (b == 61) f)

form_seen : (f : ItemForm) (bs : List ℕ) (xs : List Item) → AreOwn (whole f None bs ∷ xs) → IsSeen (sign (whole f None bs))
form_seen form.Chars bs xs h = absurd h.0
form_seen (form.Entity c) bs xs h = (refl, refl)
form_seen form.Nowiki bs xs h = (refl, refl)
form_seen form.Extension bs xs h = absurd h.0
form_seen form.Function bs xs h = absurd h.0
form_seen form.Comment bs xs h = absurd h.0
form_seen form.Include bs xs h = absurd h.0
form_seen form.Hidden bs xs h = absurd h.0
form_seen form.EmptyCall bs xs h = absurd h.0

own_begins : (xs : List Item) → AreOwn xs → first_seen (sources xs) ≡ true → BeginsWithout is_blank (map sign xs) × BeginsWithout is_equals_sign (map sign xs)
own_begins [] h e = cc
own_begins (char None b ∷ xs) h e = char_seen b e
own_begins (char (Some k) b ∷ xs) h e = absurd h
own_begins (whole f None bs ∷ xs) h e = form_seen f bs xs h
own_begins (whole f (Some k) bs ∷ xs) h e = absurd h

own_rest : (x : Item) (xs : List Item) → AreOwn (x ∷ xs) → AreOwn xs
own_rest (char None b) xs h = h
own_rest (char (Some k) b) xs h = absurd h
own_rest (whole f None bs) xs h = h.1
own_rest (whole f (Some k) bs) xs h = absurd h

one_ends : (x : Item) → AreOwn (x ∷ []) → last_seen (source x ++ []) ≡ true → EndsWithout is_blank (sign x ∷ []) × EndsWithout is_equals_sign (sign x ∷ [])
one_ends (char None b) h e = char_seen b e
one_ends (char (Some k) b) h e = absurd h
one_ends (whole f None bs) h e = form_seen f bs [] h
one_ends (whole f (Some k) bs) h e = absurd h

own_ends : (x : Item) (xs : List Item) → AreOwn (x ∷ xs) → last_seen (sources (x ∷ xs)) ≡ true → EndsWithout is_blank (map sign (x ∷ xs)) × EndsWithout is_equals_sign (map sign (x ∷ xs))
own_ends x [] h e = one_ends x h e
own_ends x (y ∷ xs) h e = own_ends y xs (own_rest x (y ∷ xs) h) (last_rest (source x) (sources (y ∷ xs)) e)

some_ends : (xs : List Item) → AreOwn xs → first_seen (sources xs) ≡ true → last_seen (sources xs) ≡ true → EndsWithout is_blank (map sign xs) × EndsWithout is_equals_sign (map sign xs)
some_ends [] h f e = cc
some_ends (x ∷ xs) h f e = own_ends x xs h e

-- ---- how characters are written

record IsWrittenWell (bs : List ℕ) : Type 0 where
  line : has_line bs ≡ false
  first : first_seen bs ≡ true
  last : last_seen bs ≡ true

reference_well : (c : ℕ) → is_escapable c ≡ true → IsWrittenWell (reference c)
unfolding reference digits
reference_well c e =
    let P : ℕ → Type 0 = λ k. IsWrittenWell (reference k) in
    each_escapable P (record { line = refl; first = refl; last = refl }) (record { line = refl; first = refl; last = refl })
    (record { line = refl; first = refl; last = refl }) (record { line = refl; first = refl; last = refl }) (record { line = refl; first = refl; last = refl })
    (record { line = refl; first = refl; last = refl }) (record { line = refl; first = refl; last = refl }) (record { line = refl; first = refl; last = refl })
    (record { line = refl; first = refl; last = refl }) (record { line = refl; first = refl; last = refl }) (record { line = refl; first = refl; last = refl })
    (record { line = refl; first = refl; last = refl }) (record { line = refl; first = refl; last = refl }) c e

wide_line : (bs : List ℕ) → All IsWide bs → has_line bs ≡ false
wide_line [] h = refl
wide_line (b ∷ bs) h =
    let w : 128 ≤ b = All-head IsWide b bs h in
    none_of (is_break b) (has_line bs) (grind (arith, nat_tests, w)) (wide_line bs (All-tail IsWide b bs h))

wide_seen : (b : ℕ) → 128 ≤ b → not (is_side b) ≡ true
wide_seen b w =
    let e : is_blank b ≡ false = none_of (b == 32) (b == 9) (grind (arith, nat_tests, w)) (grind (arith, nat_tests, w)) in
    ap not (none_of (is_blank b) (b == 61) e (grind (arith, nat_tests, w)))

wide_first : (bs : List ℕ) → 0 < length bs → All IsWide bs → first_seen bs ≡ true
wide_first [] some h = absurd (omega (arith, some))
wide_first (b ∷ bs) some h = wide_seen b (All-head IsWide b bs h)

wide_last : (bs : List ℕ) → All IsWide bs → last_seen bs ≡ true
wide_last [] h = refl
wide_last (b ∷ []) h = wide_seen b (All-head IsWide b [] h)
wide_last (b ∷ c ∷ bs) h = wide_last (c ∷ bs) (All-tail IsWide b (c ∷ bs) h)

encoded_line : (c : ℕ) → is_break c ≡ false → has_line (encode_utf8 c) ≡ false
encoded_line c e = elim (cases_lt c 128) [
  | inl small ↦ ap has_line (encode_ascii c small) ∙ none_of (is_break c) false e refl
  | inr wide ↦ wide_line (encode_utf8 c) (encode_wide c wide)
]

encoded_first : (c : ℕ) → is_side c ≡ false → first_seen (encode_utf8 c) ≡ true
encoded_first c e = elim (cases_lt c 128) [
  | inl small ↦ ap first_seen (encode_ascii c small) ∙ ap not e
  | inr wide ↦ wide_first (encode_utf8 c) (encode_some c) (encode_wide c wide)
]

encoded_last : (c : ℕ) → is_side c ≡ false → last_seen (encode_utf8 c) ≡ true
encoded_last c e = elim (cases_lt c 128) [
  | inl small ↦ ap last_seen (encode_ascii c small) ∙ ap not e
  | inr wide ↦ wide_last (encode_utf8 c) (encode_wide c wide)
]

written_line : (c : ℕ) (e : Bool) → (e ≡ true → is_escapable c ≡ true) → is_break c ≡ false → has_line (written_by e c) ≡ false
written_line c true f b = (reference_well c (f refl)).line
written_line c false f b = encoded_line c b

written_first : (c : ℕ) (e : Bool) → (e ≡ true → is_escapable c ≡ true) → is_side c ≡ false → first_seen (written_by e c) ≡ true
written_first c true f b = (reference_well c (f refl)).first
written_first c false f b = encoded_first c b

written_last : (c : ℕ) (e : Bool) → (e ≡ true → is_escapable c ≡ true) → (e ≡ false → is_side c ≡ false) → last_seen (written_by e c) ≡ true
written_last c true f b = (reference_well c (f refl)).last
written_last c false f b = encoded_last c (b refl)

-- ---- what is put

nowiki_well : IsWrittenWell nowiki
unfolding nowiki
nowiki_well = record { line = refl; first = refl; last = refl }

guard_line : (g : Bool) → has_line (nowiki_if g) ≡ false
guard_line true = nowiki_well.line
guard_line false = refl

guard_last : (g : Bool) → last_seen (nowiki_if g) ≡ true
guard_last true = nowiki_well.last
guard_last false = refl

none_put : (g : Bool) → nowiki_if g ≡ [] → g ≡ false
unfolding nowiki
none_put true e = cc
none_put false e = refl

and_right : (a b : Bool) → a ≡ true → (a && b) ≡ false → b ≡ false
and_right true b e f = f
and_right false b e f = cc

-- ---- one line

spelled_line : (s : Setting) (before : List ContentSign) (cs : List ℕ) → has_line cs ≡ false → has_line (spelled_from s before (map letter cs)) ≡ false
spelled_line s before [] h = guard_line (is_guarded s before [])
spelled_line s before (c ∷ cs) h =
    let after : List ContentSign = map letter cs in
    let e : Bool = is_escaped s.within s.place before c after in
    let g : Bool = is_guarded s before (letter c ∷ after) in
    let rest : List ℕ = spelled_from s (letter c ∷ before) after in
    lines_joined (nowiki_if g) (written_by e c ++ rest) (guard_line g)
    (lines_joined (written_by e c) rest
    (written_line c e (λ f. escapable s.within s.place before c after f) (left_false (is_break c) (has_line cs) h))
    (spelled_line s (letter c ∷ before) cs (right_false (is_break c) (has_line cs) h)))

-- ---- its end

pub end_by : (s : Setting) (before : List ContentSign) (c : ℕ) → s.within ≡ false → s.place ≡ place.Heading → is_guarded s (letter c ∷ before) [] ≡ false
    → is_blank c ≡ false
unfolding is_guarded is_between_guard is_end_guard
end_by s before c w p e =
    let all : (is_start_guard (letter c ∷ before) [] || (is_end_guard s.source s.place (letter c ∷ before) [] || is_blank_guard s.source (letter c ∷ before) [])) ≡ false =
    and_right (not s.within) (is_start_guard (letter c ∷ before) [] || (is_end_guard s.source s.place (letter c ∷ before) [] || is_blank_guard s.source (letter c ∷ before) []))
    (ap not w) e in
    let end : is_end_guard s.source s.place (letter c ∷ before) [] ≡ false =
    left_false (is_end_guard s.source s.place (letter c ∷ before) []) (is_blank_guard s.source (letter c ∷ before) [])
    (right_false (is_start_guard (letter c ∷ before) []) (is_end_guard s.source s.place (letter c ∷ before) [] || is_blank_guard s.source (letter c ∷ before) []) all) in
    let last : is_content_end_guard s.source s.place (Some (letter c)) ≡ false =
    right_false (is_unended (letter c ∷ before)) (is_content_end_guard s.source s.place (Some (letter c))) end in
    subst (λ p. is_content_end_guard s.source p (Some (letter c)) ≡ false) p last

-- a `=` at the end is written as a reference
equals_escaped : (within : Bool) (place : Place) (before : List ContentSign) → is_escaped within place before 61 [] ≡ true
unfolding is_escaped
equals_escaped within place before = refl

pub no_equals : (within : Bool) (place : Place) (before : List ContentSign) (c : ℕ) (v : Bool) → (c == 61) ≡ v → is_escaped within place before c [] ≡ false → v ≡ false
no_equals within place before c false i e = refl
no_equals within place before c true i e =
    let is : c ≡ 61 = grind (arith, nat_tests, i) in
    let z : is_escaped within place before 61 [] ≡ false = subst (λ (k : ℕ). is_escaped within place before k [] ≡ false) is e in
    sym (equals_escaped within place before) ∙ z

some_by : (bs : List ℕ) → first_seen bs ≡ true → 0 < length bs
some_by [] e = cc
some_by (b ∷ bs) e = omega arith

written_some : (c : ℕ) (e : Bool) → (e ≡ true → is_escapable c ≡ true) → 0 < length (written_by e c)
written_some c true f = some_by (reference c) (reference_well c (f refl)).first
written_some c false f = encode_some c

spelled_some : (s : Setting) (before : List ContentSign) (d : ℕ) (ds : List ℕ) → spelled_from s before (map letter (d ∷ ds)) ≡ [] → ⊥
spelled_some s before d ds z =
    let after : List ContentSign = map letter ds in
    let e : Bool = is_escaped s.within s.place before d after in
    let g : Bool = is_guarded s before (letter d ∷ after) in
    let rest : List ℕ = spelled_from s (letter d ∷ before) after in
    let n : length (nowiki_if g ++ (written_by e d ++ rest)) ≡ 0 = ap length z in
    let some : 0 < length (written_by e d) = written_some d e (λ f. escapable s.within s.place before d after f) in
    omega (arith, n, some, length-append (nowiki_if g) (written_by e d ++ rest), length-append (written_by e d) rest)

spelled_last : (s : Setting) (before : List ContentSign) (cs : List ℕ) → s.within ≡ false → s.place ≡ place.Heading
    → last_seen (spelled_from s before (map letter cs)) ≡ true
spelled_last s before [] w p = guard_last (is_guarded s before [])
spelled_last s before (c ∷ []) w p =
    let e : Bool = is_escaped s.within s.place before c [] in
    let g : Bool = is_guarded s before (letter c ∷ []) in
    let h : Bool = is_guarded s (letter c ∷ before) [] in
    last_joined (nowiki_if g) (written_by e c ++ nowiki_if h) (λ z. guard_last g)
    (last_joined (written_by e c) (nowiki_if h)
    (λ z. written_last c e (λ f. escapable s.within s.place before c [] f)
    (λ n. none_of (is_blank c) (c == 61) (end_by s before c w p (none_put h z)) (no_equals s.within s.place before c (c == 61) refl n))) (guard_last h))
spelled_last s before (c ∷ d ∷ ds) w p =
    let after : List ContentSign = map letter (d ∷ ds) in
    let e : Bool = is_escaped s.within s.place before c after in
    let g : Bool = is_guarded s before (letter c ∷ after) in
    let rest : List ℕ = spelled_from s (letter c ∷ before) after in
    last_joined (nowiki_if g) (written_by e c ++ rest) (λ z. guard_last g)
    (last_joined (written_by e c) rest (λ z. absurd (spelled_some s (letter c ∷ before) d ds z)) (spelled_last s (letter c ∷ before) (d ∷ ds) w p))

-- ---- its start

start_by : (s : Setting) (c : ℕ) (after : List ContentSign) → s.within ≡ false → is_guarded s [] (letter c ∷ after) ≡ false → is_side c ≡ false
unfolding is_guarded is_between_guard is_start_guard line_start_hazard
start_by s c after w e =
    let start : is_start_guard [] (letter c ∷ after) ≡ false =
    left_false (is_start_guard [] (letter c ∷ after)) (is_end_guard s.source s.place [] (letter c ∷ after) || is_blank_guard s.source [] (letter c ∷ after))
    (and_right (not s.within) (is_start_guard [] (letter c ∷ after) || (is_end_guard s.source s.place [] (letter c ∷ after) || is_blank_guard s.source [] (letter c ∷ after)))
    (ap not w) e) in
    let others : Bool = c == 42 || (c == 35 || (c == 58 || (c == 59 || (c == 45 || c == 33)))) in
    let none : (is_blank c || (c == 61 || others)) ≡ false =
    right_false (is_line_start None && ((is_empty_line (letter c ∷ after) && not (is_line_mark_next (Some (letter c)))) || is_new_next (Some (letter c))))
    (line_start_hazard c) start in
    none_of (is_blank c) (c == 61) (left_false (is_blank c) (c == 61 || others) none)
    (left_false (c == 61) others (right_false (is_blank c) (c == 61 || others) none))

empty_by : (s : Setting) → s.within ≡ false → is_guarded s [] [] ≡ true
unfolding is_guarded is_between_guard is_start_guard
empty_by s w = rw w refl

first_by : (g : Bool) (w rest : List ℕ) → (g ≡ false → first_seen w ≡ true) → first_seen (nowiki_if g ++ (w ++ rest)) ≡ true
first_by true w rest f = first_joined nowiki (w ++ rest) nowiki_well.first
first_by false w rest f = first_joined w rest (f refl)

spelled_first : (s : Setting) (cs : List ℕ) → s.within ≡ false → first_seen (spelled_from s [] (map letter cs)) ≡ true
spelled_first s [] w = ap (λ (g : Bool). first_seen (nowiki_if g)) (empty_by s w) ∙ nowiki_well.first
spelled_first s (c ∷ cs) w =
    let after : List ContentSign = map letter cs in
    let e : Bool = is_escaped s.within s.place [] c after in
    let g : Bool = is_guarded s [] (letter c ∷ after) in
    first_by g (written_by e c) (spelled_from s (letter c ∷ []) after)
    (λ h. written_first c e (λ f. escapable s.within s.place [] c after f) (start_by s c after w h))

-- ---- the text

char_line : (c : ℕ) (rest : List ℕ) (v : Bool) → is_break c ≡ v → has_line (encode_utf8 c ++ rest) ≡ false → is_break c ≡ false
char_line c rest false i e = i
char_line c rest true i e =
    let is : c ≡ 10 = grind (arith, nat_tests, i) in
    let z : has_line (encode_utf8 10 ++ rest) ≡ false = subst (λ (k : ℕ). has_line (encode_utf8 k ++ rest) ≡ false) is e in
    let t : true ≡ false = ap (λ (bs : List ℕ). has_line (bs ++ rest)) (sym (encode_ascii 10 (omega arith))) ∙ z in
    absurd cc

pub chars_line : (cs : List ℕ) → has_line (encodes cs) ≡ false → has_line cs ≡ false
chars_line [] e = refl
chars_line (c ∷ cs) e =
    none_of (is_break c) (has_line cs) (char_line c (encodes cs) (is_break c) refl e) (chars_line cs (line_rest (encode_utf8 c) (encodes cs) e))

pub same_break : (bs : List ℕ) → has_break bs ≡ has_line bs
same_break [] = refl
same_break (b ∷ bs) = ap (λ (v : Bool). is_break b || v) (same_break bs)

still_one : (xs : List Item) → StillItems xs → line_parts xs ≡ parts Text xs
unfolding context_parts
still_one xs h = still_within most_contexts in_line xs h

record IsTypedText (xs : List Item) : Type 0 where
  text : IsHeadingText xs
  begins : BeginsWithout is_equals_sign (map sign xs)
  ends : EndsWithout is_equals_sign (map sign xs)

typed_is : (s : Setting) (text : List ℕ) → s.within ≡ false → s.place ≡ place.Heading → IsUtf8 text → has_break text ≡ false
    → IsTypedText (page_items (spelled s (letters text)))
typed_is s text w p u b =
    let q : List ℕ = spelled s (letters text) in
    let xs : List Item = page_items q in
    let is : sources xs ≡ q = page_sources q in
    let own : AreOwn xs = typed_own s text in
    let line : has_line (chars text) ≡ false = chars_line (chars text) (ap has_line (encodes-chars text u) ∙ sym (same_break text) ∙ b) in
    let first : first_seen (sources xs) ≡ true = ap first_seen is ∙ spelled_first s (chars text) w in
    let begin = own_begins xs own first in
    let end = some_ends xs own first (ap last_seen is ∙ spelled_last s [] (chars text) w p) in
    record {
      text = record {
        is_one = still_one xs (typed_still s text);
        unbroken = own_unbroken xs own (ap has_line is ∙ spelled_line s [] (chars text) line);
        begins = begin.0;
        ends = end.0;
      };
      begins = begin.1;
      ends = end.1;
    }

pub typed_heading_text : (s : Setting) (text : List ℕ) → s.within ≡ false → s.place ≡ place.Heading → IsUtf8 text → has_break text ≡ false
    → IsHeadingText (page_items (spelled s (letters text)))
typed_heading_text s text w p u b = (typed_is s text w p u b).text

-- ---- between any blanks, or none

unequal : (b : ℕ) → is_blank b ≡ true → (b == 61) ≡ false
unequal b e = grind (arith, nat_tests, e)

pub begins_other : (bs ss : List ℕ) → AreBlanks bs → BeginsWithout is_equals_sign ss → BeginsWithout is_equals_sign (bs ++ ss)
begins_other [] ss h g = g
begins_other (b ∷ bs) ss h g = unequal b h.0

pub begins_still : (ss ts : List ℕ) → BeginsWithout is_equals_sign ss → BeginsWithout is_equals_sign (ss ++ ts)
begins_still [] ts g = absurd g
begins_still (s ∷ ss) ts g = g

pub ends_still : (ss : List ℕ) (t : ℕ) (ts : List ℕ) → EndsWithout is_equals_sign (t ∷ ts) → EndsWithout is_equals_sign (ss ++ t ∷ ts)
ends_still [] t ts g = g
ends_still (s ∷ []) t ts g = g
ends_still (s ∷ r ∷ ss) t ts g = ends_still (r ∷ ss) t ts g

pub ends_blank : (b : ℕ) (bs : List ℕ) → AreBlanks (b ∷ bs) → EndsWithout is_equals_sign (b ∷ bs)
ends_blank b [] h = unequal b h.0
ends_blank b (c ∷ bs) h = ends_blank c bs h.1

pub ends_other : (ss bs : List ℕ) → AreBlanks bs → EndsWithout is_equals_sign ss → EndsWithout is_equals_sign (ss ++ bs)
ends_other ss [] h g = subst (EndsWithout is_equals_sign) (sym (append-nil ss)) g
ends_other ss (b ∷ bs) h g = ends_still ss b bs (ends_blank b bs h)

pub ends_behind : (bs ss : List ℕ) → EndsWithout is_equals_sign ss → EndsWithout is_equals_sign (bs ++ ss)
ends_behind bs [] g = absurd g
ends_behind bs (s ∷ ss) g = ends_still bs s ss g

pub typed_apart : (s : Setting) (text : List ℕ) (sides : Sides) → s.within ≡ false → s.place ≡ place.Heading → IsUtf8 text → has_break text ≡ false
    → AreSides sides → StandsApart sides (page_items (spelled s (letters text)))
typed_apart s text sides w p u b a =
    let t = typed_is s text w p u b in
    let ss : List ℕ = map sign (page_items (spelled s (letters text))) in
    record {
      first = begins_other sides.lead (ss ++ sides.trail) a.lead (begins_still ss sides.trail t.begins);
      last = ends_behind sides.lead (ss ++ sides.trail) (ends_other ss sides.trail a.trail t.ends);
    }
