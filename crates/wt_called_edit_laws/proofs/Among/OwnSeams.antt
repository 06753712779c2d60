-- The items of an expanded page, cut where the page's own items are on one side: there the page's items, where calls are characters, are cut, too, and
-- no call goes over the place.
use Rattle.std.proofs.Common.{arith, ◌≡◌, ◌⊎◌, inl, inr, ℕ, ◌+◌, ◌-◌, ◌≤◌, Bool, false, Option, Some, None, List, [], ◌∷◌, ◌++◌, length, take, drop, refl, sym, ap, ap₂, ◌∙◌, subst, append_assoc, append-nil, length-append, length-take, length-drop}
use Rattle.std.specs.Prelude.{slice_index}
use Rattle.wt_span.specs.declared.form.ItemForm.TheVariants as form
use Rattle.wt_span.specs.declared.form.LexKind.{LexKind}
use Rattle.wt_span.specs.Bytes.{is_break}
use Rattle.wt_span.specs.Items.{Item, char, whole, source, sources, call_of}
use Rattle.wt_span.specs.Origins.{OuterCall, Span}
use Rattle.wt_span.specs.Braces.{Member, Members, lexeme, call, none, more, width, width_of_all}
use Rattle.wt_annotated.specs.Seams.{last_of, first_of, text_from}
use Rattle.wt_annotated.proofs.Seams.{last_append, text_append_from}
use Rattle.wt_braces.specs.PartMembers.{part_members}
use Rattle.wt_expand.specs.PageItems.{form_of, items_of_word, items_of_words}
use Rattle.wt_expand.specs.Targets.{Called, argument, choice, function, page, text, called}
use Rattle.wt_expand.specs.Work.{Pages}
use Rattle.wt_expand.specs.Expansion.{Output, chars, PartOutput, part_outputs, target_part, Reading, front_braces, back_braces, called_output, outputs_of, page_reading}
use Rattle.wt_expand.specs.PageCalls.{Stretch, own, outer_at, call_stretches, stretches_of, all_stretches, outer_items, numbered, outer_calls, text_spans}
use Rattle.wt_expand.proofs.PiecePlaces.{AllFrom, form_from, behind_page}
use Rattle.wt_transclusion.specs.Stretch.{AreFull}
use Rattle.wt_part_laws.proofs.ApartStretches.{numbered_both, outers_both, spans_both}
use Rattle.wt_called_edit_laws.specs.LinedAmong.{AreBeside}
use Rattle.wt_called_edit_laws.specs.PartTexts.{AreSourcesAt}
use Rattle.wt_called_edit_laws.proofs.Among.Flattened.{flat, flat_all, items_append}
use Rattle.wt_called_edit_laws.proofs.Among.Members.{front_size, back_size, member_text, below_all, named_both, flat_width, words_size}
use Rattle.wt_called_edit_laws.proofs.Among.PartsApart.{IsClear}
use Rattle.wt_called_edit_laws.proofs.PartTexts.{own_one, own_text, IsBelow, below_own, last_same, called_from}

-- ---- two cuts of one list

pub record FirstLonger (xs ys gs bs : List Item) : Type 0 where
  pub us : List Item
  pub xs_are : xs ≡ gs ++ us
  pub bs_are : bs ≡ us ++ ys

pub record FirstShorter (xs ys gs bs : List Item) : Type 0 where
  pub v : Item
  pub vs : List Item
  pub gs_are : gs ≡ xs ++ v ∷ vs
  pub ys_are : ys ≡ (v ∷ vs) ++ bs

abbrev pub first_or : Item → List Item → Item
first_or x [] = x
first_or x (y ∷ ys) = y

abbrev pub others : List Item → List Item
others [] = []
others (y ∷ ys) = ys

pub two_cuts : (xs ys gs bs : List Item) → xs ++ ys ≡ gs ++ bs → FirstLonger xs ys gs bs ⊎ FirstShorter xs ys gs bs
two_cuts xs ys [] bs e = inl (record { us = xs; xs_are = refl; bs_are = sym e })
two_cuts [] ys (a ∷ gs) bs e = inr (record { v = a; vs = gs; gs_are = refl; ys_are = e })
two_cuts (x ∷ xs) ys (a ∷ gs) bs e = both (two_cuts xs ys gs bs (ap others e))
  where
    first : x ≡ a
    first = ap (first_or x) e

    both : FirstLonger xs ys gs bs ⊎ FirstShorter xs ys gs bs → FirstLonger (x ∷ xs) ys (a ∷ gs) bs ⊎ FirstShorter (x ∷ xs) ys (a ∷ gs) bs
    both (inl l) = inl (record {
      us = l.us;
      xs_are = ap₂ (λ (y : Item) (zs : List Item). y ∷ zs) first l.xs_are;
      bs_are = l.bs_are;
    })
    both (inr s) = inr (record {
      v = s.v;
      vs = s.vs;
      gs_are = ap₂ (λ (y : Item) (zs : List Item). y ∷ zs) (sym first) s.gs_are;
      ys_are = s.ys_are;
    })

-- ---- items and their bytes

pub sources_size : (xs ys : List Item) → length (sources (xs ++ ys)) ≡ length (sources xs) + length (sources ys)
sources_size [] ys = omega arith
sources_size (x ∷ xs) ys =
    let a = length-append (source x) (sources (xs ++ ys)) in
    let b = length-append (source x) (sources xs) in
    let c = sources_size xs ys in
    omega (arith, a, b, c)

pub from_front : (o : Option ℕ) (xs ys : List Item) → AllFrom o (xs ++ ys) → AllFrom o xs
from_front o [] ys h = tt
from_front o (x ∷ xs) ys h = (h.0, from_front o xs ys h.1)

pub from_rest : (o : Option ℕ) (xs ys : List Item) → AllFrom o (xs ++ ys) → AllFrom o ys
from_rest o [] ys h = h
from_rest o (x ∷ xs) ys h = from_rest o xs ys h.1

pub own_last : (xs : List Item) → AllFrom None xs → last_of None xs ≡ None
own_last [] h = refl
own_last (x ∷ xs) h = ap (λ (o : Option ℕ). last_of o xs) h.0 ∙ own_last xs h.1

pub text_size : (calls : List OuterCall) (o : Option ℕ) (xs ys : List Item)
    → length (text_from calls o (xs ++ ys)) ≡ length (text_from calls o xs) + length (text_from calls (last_of o xs) ys)
text_size calls o xs ys =
    ap length (text_append_from calls o xs ys) ∙ length-append (text_from calls o xs) (text_from calls (last_of o xs) ys)

pub own_size : (calls : List OuterCall) (o : Option ℕ) (xs : List Item) → AllFrom None xs → length (text_from calls o xs) ≡ length (sources xs)
own_size calls o xs h = ap length (own_text calls o xs h)

-- where a character of the page is first, or last
pub first_size : (calls : List OuterCall) (o : Option ℕ) (x : Item) (b : ℕ) (xs : List Item) → x ≡ char None b → 1 ≤ length (text_from calls o (x ∷ xs))
first_size calls o x b xs e =
    let c : call_of x ≡ None = ap call_of e in
    let s : length (source x) ≡ 1 = ap (λ (y : Item). length (source y)) e in
    let t = ap (λ (bs : List ℕ). length (bs ++ text_from calls (call_of x) xs)) (behind_page calls o x c) in
    let u = length-append (source x) (text_from calls (call_of x) xs) in
    omega (arith, s, t, u)

pub last_size : (calls : List OuterCall) (o : Option ℕ) (xs : List Item) (b : ℕ) → 1 ≤ length (text_from calls o (xs ++ char None b ∷ []))
last_size calls o xs b =
    let e = text_size calls o xs (char None b ∷ []) in
    let f = first_size calls (last_of o xs) (char None b) b [] refl in
    omega (arith, e, f)

-- what ends them ends what is behind a cut
none_cut : (y v : Item) (us vs : List Item) → y ∷ [] ≡ us ++ v ∷ vs → v ∷ vs ≡ y ∷ []
none_cut y v [] vs e = sym e
none_cut y v (u ∷ []) vs e = cc
none_cut y v (u ∷ w ∷ us) vs e = cc

pub end_behind : (xs : List Item) (v : Item) (vs zs : List Item) (y : Item) → xs ++ v ∷ vs ≡ zs ++ y ∷ [] → (ws : List Item) × (v ∷ vs ≡ ws ++ y ∷ [])
end_behind xs v vs zs y e = elim (two_cuts xs (v ∷ vs) zs (y ∷ []) e) [
  | inl l ↦ ([], none_cut y v l.us vs l.bs_are)
  | inr s ↦ (s.v ∷ s.vs, s.ys_are)
]

pub some_bytes : (xs : List ℕ) → 1 ≤ length xs → (b : ℕ) × (bs : List ℕ) × (xs ≡ b ∷ bs)
some_bytes [] h = absurd (omega (arith, h))
some_bytes (b ∷ bs) h = (b, bs, refl)

pub last_bytes : (b : ℕ) (bs : List ℕ) → (cs : List ℕ) × (c : ℕ) × (b ∷ bs ≡ cs ++ c ∷ [])
last_bytes b [] = ([], b, refl)
last_bytes b (d ∷ bs) = let r = last_bytes d bs in (b ∷ r.0, r.1, ap (λ (zs : List ℕ). b ∷ zs) r.2)

pub chars_both : (xs ys : List ℕ) → chars (xs ++ ys) ≡ chars xs ++ chars ys
chars_both [] ys = refl
chars_both (x ∷ xs) ys = ap (λ zs. char None x ∷ zs) (chars_both xs ys)

-- ---- a cut among the page's own items

-- nothing is before it, or an item of the page's own; or one is behind it, or nothing
abbrev pub IsOwnSeam : List Item → List Item → Type 0
IsOwnSeam [] ys = Unit {0}
IsOwnSeam (x ∷ xs) ys = (last_of (call_of x) xs ≡ None) ⊎ (first_of ys None ≡ None)

pub seam_rest : (gs us ys : List Item) → IsOwnSeam (gs ++ us) ys → IsOwnSeam us ys
seam_rest [] us ys h = h
seam_rest (a ∷ gs) [] ys h = tt
seam_rest (a ∷ gs) (u ∷ us) ys (inl e) = inl (sym (last_append (call_of a) gs (u ∷ us)) ∙ e)
seam_rest (a ∷ gs) (u ∷ us) ys (inr e) = inr e

pub beside_rest : (from to : ℕ) (ss ts : List Span) → AreBeside from to (ss ++ ts) → AreBeside from to ts
beside_rest from to [] ts h = h
beside_rest from to (s ∷ ss) ts h = beside_rest from to ss ts h.1

-- ---- the rest of a page from such a cut on

abbrev pub stretches : Pages → ℕ → Bool → List ℕ → Members → List Stretch
stretches pages at start bs ms = all_stretches (page_reading pages) at start bs ms

abbrev pub given : Pages → ℕ → ℕ → Bool → List ℕ → Members → List Item
given pages k at start bs ms = numbered k (stretches pages at start bs ms)

-- members that begin at a place of the page
pub record AreAt (pages : Pages) (calls : List OuterCall) (k at : ℕ) (start : Bool) (bs : List ℕ) (ms : Members) : Type 0 where
  pub full : AreFull ms
  pub long : width_of_all ms ≤ length bs
  pub named : AreSourcesAt calls k (outer_calls (stretches pages at start bs ms))

-- The items of the expanded page from a place on, and those of the page with calls gs characters: what is left of a lexeme, and those of other members.
pub record Rest (pages : Pages) (calls : List OuterCall) (spans : List Span) (at : ℕ) (ms : Members) (p : ℕ) (ys qs : List Item) : Type 0 where
  pub left : List Item
  pub number : ℕ
  pub place : ℕ
  pub start : Bool
  pub bytes : List ℕ
  pub later : Members
  pub items : ys ≡ left ++ given pages number place start bytes later
  pub chars : qs ≡ left ++ items_of_words (flat_all later) bytes
  pub own : AllFrom None left
  pub size : p + length (sources left) ≡ place
  pub are : AreAt pages calls number place start bytes later
  pub texts : (from to : ℕ) → AreBeside from to spans → AreBeside from to (text_spans (stretches pages place start bytes later))
  pub clear : (q : ℕ) → p ≤ q → IsClear q place later → IsClear q at ms

pub record Found (pages : Pages) (calls : List OuterCall) (spans : List Span) (at : ℕ) (bs : List ℕ) (ms : Members) (n : ℕ) (ys : List Item) : Type 0 where
  pub front : List Item
  pub behind : List Item
  pub chars : items_of_words (flat_all ms) bs ≡ front ++ behind
  pub size : length (sources front) ≡ n
  pub rest : Rest pages calls spans at ms (at + n) ys behind

pub all_left : (pages : Pages) (calls : List OuterCall) (k at : ℕ) (start : Bool) (bs : List ℕ) (ms : Members) → AreAt pages calls k at start bs ms
    → Rest pages calls (text_spans (stretches pages at start bs ms)) at ms (at + 0) (given pages k at start bs ms) (items_of_words (flat_all ms) bs)
all_left pages calls k at start bs ms a = record {
  left = [];
  number = k;
  place = at;
  start = start;
  bytes = bs;
  later = ms;
  items = refl;
  chars = refl;
  own = tt;
  size = omega arith;
  are = a;
  texts = λ from to h. h;
  clear = λ q le c. c;
}

found_here : (pages : Pages) (calls : List OuterCall) (k at : ℕ) (start : Bool) (bs : List ℕ) (ms : Members) (ys : List Item) → AreAt pages calls k at start bs ms
    → given pages k at start bs ms ≡ ys → Found pages calls (text_spans (stretches pages at start bs ms)) at bs ms 0 ys
found_here pages calls k at start bs ms ys a e = record {
  front = [];
  behind = items_of_words (flat_all ms) bs;
  chars = refl;
  size = refl;
  rest = subst (λ zs. Rest pages calls (text_spans (stretches pages at start bs ms)) at ms (at + 0) zs (items_of_words (flat_all ms) bs)) e
      (all_left pages calls k at start bs ms a);
}

-- ---- no cut is in a call

outer_from : (j : ℕ) (c : OuterCall) (xs : List Item) → AllFrom (Some j) (outer_items j c xs)
outer_from j c [] = (refl, tt)
outer_from j c (x ∷ xs) = called_from j (x ∷ xs)

pub none_some : (o : Option ℕ) (j : ℕ) → o ≡ None → o ≡ Some j → ⊥
none_some o j e f = let z : None ≡ Some j = sym e ∙ f in cc

not_outer : (j : ℕ) (c : OuterCall) (zs : List Item) (x : Item) (xs : List Item) (v : Item) (vs rest : List Item)
    → outer_items j c zs ++ [] ≡ (x ∷ xs) ++ v ∷ vs → IsOwnSeam (x ∷ xs) ((v ∷ vs) ++ rest) → ⊥
not_outer j c zs x xs v vs rest e h =
    let all : AllFrom (Some j) ((x ∷ xs) ++ v ∷ vs) = subst (AllFrom (Some j)) (sym (append-nil (outer_items j c zs)) ∙ e) (outer_from j c zs) in
    let front : AllFrom (Some j) (x ∷ xs) = from_front (Some j) (x ∷ xs) (v ∷ vs) all in
    let behind : AllFrom (Some j) (v ∷ vs) = from_rest (Some j) (x ∷ xs) (v ∷ vs) all in
    elim h [
      | inl l ↦ none_some (last_of (call_of x) xs) j l (last_same j (call_of x) xs front.0 front.1)
      | inr r ↦ none_some (call_of v) j r behind.0
    ]

not_one : (w x v : Item) (xs vs : List Item) → (w ∷ []) ++ [] ≡ (x ∷ xs) ++ v ∷ vs → ⊥
not_one w x v [] vs e = cc
not_one w x v (y ∷ xs) vs e = cc

-- a text call has bytes on both sides
not_text : (calls : List OuterCall) (o : Option ℕ) (j at k n : ℕ) (source : List ℕ) (inside : List Stretch) (spans : List Span) (x : Item) (xs : List Item) (v : Item)
    (vs : List Item) → 2 ≤ k → length source ≡ k + n + k
    → chars (front_braces k source) ++ numbered j (inside ++ own (chars (back_braces k source)) ∷ []) ≡ (x ∷ xs) ++ v ∷ vs
    → length (text_from calls o ((x ∷ xs) ++ v ∷ vs)) ≡ k + n + k
    → ((at + (k + n + k) ≤ at + length (text_from calls o (x ∷ xs))) ⊎ (at + length (text_from calls o (x ∷ xs)) ≤ at)) → ⊥
not_text calls o j at k n source inside spans x xs v vs two size e all h =
    let fs = front_size k n source size in
    let bs = back_size k n source size in
    let front = some_bytes (front_braces k source) (omega (arith, fs, two)) in
    let back = some_bytes (back_braces k source) (omega (arith, bs, two)) in
    let last = last_bytes back.0 back.1 in
    let is_first : x ≡ char None front.0 =
    sym (ap (λ (zs : List Item). first_or x zs)
    (ap (λ (cs : List ℕ). chars cs ++ numbered j (inside ++ own (chars (back_braces k source)) ∷ [])) (sym front.2) ∙ e)) in
    let low = first_size calls o x front.0 xs is_first in
    let ending : chars (back_braces k source) ≡ chars last.0 ++ char None last.1 ∷ [] = ap chars (back.2 ∙ last.2) ∙ chars_both last.0 (last.1 ∷ []) in
    let before : List Item = numbered j inside in
    let tail : numbered j (inside ++ own (chars (back_braces k source)) ∷ []) ≡ (before ++ chars last.0) ++ char None last.1 ∷ [] =
    numbered_both j inside (own (chars (back_braces k source)) ∷ [])
    ∙ ap (λ zs. before ++ zs) (append-nil (chars (back_braces k source)) ∙ ending)
    ∙ sym (append_assoc before (chars last.0) (char None last.1 ∷ [])) in
    let whole_end : (x ∷ xs) ++ v ∷ vs ≡ (chars (front_braces k source) ++ (before ++ chars last.0)) ++ char None last.1 ∷ [] =
    sym e ∙ ap (λ zs. chars (front_braces k source) ++ zs) tail
    ∙ sym (append_assoc (chars (front_braces k source)) (before ++ chars last.0) (char None last.1 ∷ [])) in
    let b = end_behind (x ∷ xs) v vs (chars (front_braces k source) ++ (before ++ chars last.0)) (char None last.1) whole_end in
    let high : 1 ≤ length (text_from calls (last_of o (x ∷ xs)) (v ∷ vs)) =
    subst (λ (zs : List Item). 1 ≤ length (text_from calls (last_of o (x ∷ xs)) zs)) (sym b.1) (last_size calls (last_of o (x ∷ xs)) b.0 last.1) in
    let sum = text_size calls o (x ∷ xs) (v ∷ vs) in
    elim h [
      | inl l ↦ omega (arith, l, low, high, sum, all)
      | inr r ↦ omega (arith, r, low)
    ]

-- whatever the call is
not_in : (calls : List OuterCall) (o : Option ℕ) (c : Called) (r : Reading) (start : Bool) (at k : ℕ) (source : List ℕ) (ms : Members) (ps : List PartOutput)
    (os : List Output) (inside : List Stretch) (j : ℕ) (spans : List Span) (x : Item) (xs : List Item) (v : Item) (vs rest : List Item) → 2 ≤ k
    → length source ≡ k + width_of_all ms + k
    → numbered j (call_stretches c at k source ms (called_output c r start k source ps os).items inside) ≡ (x ∷ xs) ++ v ∷ vs
    → IsOwnSeam (x ∷ xs) ((v ∷ vs) ++ rest)
    → length (text_from calls o ((x ∷ xs) ++ v ∷ vs)) ≡ k + width_of_all ms + k
    → AreBeside (at + length (text_from calls o (x ∷ xs))) (at + length (text_from calls o (x ∷ xs)))
    (text_spans (call_stretches c at k source ms (called_output c r start k source ps os).items inside) ++ spans) → ⊥
not_in calls o argument r start at k source ms ps os inside j spans x xs v vs rest two size e h all b =
    not_outer j (outer_at at k source ms argument) _ x xs v vs rest e h
not_in calls o (choice f n) r start at k source ms ps os inside j spans x xs v vs rest two size e h all b =
    not_outer j (outer_at at k source ms (choice f n)) _ x xs v vs rest e h
not_in calls o function r start at k source ms ps os inside j spans x xs v vs rest two size e h all b =
    not_one (whole form.Function None source) x v xs vs e
not_in calls o (page t) r start at k source ms ps os inside j spans x xs v vs rest two size e h all b =
    not_outer j (outer_at at k source ms (page t)) _ x xs v vs rest e h
not_in calls o text r start at k source ms ps os inside j spans x xs v vs rest two size e h all b =
    not_text calls o j at k (width_of_all ms) source inside spans x xs v vs two size e all b.0

-- ---- a cut in a lexeme

pub lexeme_rest : (pages : Pages) (calls : List OuterCall) (k at : ℕ) (start : Bool) (bs : List ℕ) (kind : LexKind) (n : ℕ) (ms : Members)
    (xs : List Item) (v : Item) (vs ys : List Item) → AreAt pages calls k at start bs (more (lexeme (kind, n)) ms)
    → items_of_word kind (take n bs) ≡ xs ++ v ∷ vs
    → ys ≡ (v ∷ vs) ++ given pages k (at + n) (is_break (slice_index bs (n - 1))) (drop n bs) ms
    → Rest pages calls (text_spans (stretches pages at start bs (more (lexeme (kind, n)) ms))) at (more (lexeme (kind, n)) ms) (at + length (sources xs)) ys
    ((v ∷ vs) ++ items_of_words (flat_all ms) (drop n bs))
lexeme_rest pages calls k at start bs kind n ms xs v vs ys a e g =
    let all : AllFrom None (xs ++ v ∷ vs) = subst (AllFrom None) e (form_from (form_of kind (take n bs)) None (take n bs)) in
    let t = sources_size xs (v ∷ vs) in
    let w = words_size ((kind, n) ∷ []) bs (omega (arith, a.long)) in
    let z = ap (λ (zs : List Item). length (sources zs)) (append-nil (items_of_word kind (take n bs)) ∙ e) in
    let d = length-drop n bs in
    record {
      left = v ∷ vs;
      number = k;
      place = at + n;
      start = is_break (slice_index bs (n - 1));
      bytes = drop n bs;
      later = ms;
      items = g;
      chars = refl;
      own = from_rest None xs (v ∷ vs) all;
      size = omega (arith, t, w, z);
      are = record { full = a.full.1; long = omega (arith, a.long, d); named = a.named };
      texts = λ from to h. h;
      clear = λ q le c. (tt, c);
    }

pub lexeme_chars : (kind : LexKind) (n : ℕ) (bs : List ℕ) (ms : Members) (xs : List Item) (v : Item) (vs : List Item) → items_of_word kind (take n bs) ≡ xs ++ v ∷ vs
    → items_of_words (flat_all (more (lexeme (kind, n)) ms)) bs ≡ xs ++ ((v ∷ vs) ++ items_of_words (flat_all ms) (drop n bs))
lexeme_chars kind n bs ms xs v vs e =
    ap (λ zs. zs ++ items_of_words (flat_all ms) (drop n bs)) e ∙ append_assoc xs (v ∷ vs) (items_of_words (flat_all ms) (drop n bs))

lexeme_found : (pages : Pages) (calls : List OuterCall) (o : Option ℕ) (k at : ℕ) (start : Bool) (bs : List ℕ) (kind : LexKind) (n : ℕ) (ms : Members)
    (xs : List Item) (v : Item) (vs ys : List Item) → AreAt pages calls k at start bs (more (lexeme (kind, n)) ms)
    → items_of_word kind (take n bs) ≡ xs ++ v ∷ vs
    → ys ≡ (v ∷ vs) ++ given pages k (at + n) (is_break (slice_index bs (n - 1))) (drop n bs) ms
    → Found pages calls (text_spans (stretches pages at start bs (more (lexeme (kind, n)) ms))) at bs (more (lexeme (kind, n)) ms) (length (text_from calls o xs)) ys
lexeme_found pages calls o k at start bs kind n ms xs v vs ys a e g =
    let all : AllFrom None (xs ++ v ∷ vs) = subst (AllFrom None) e (form_from (form_of kind (take n bs)) None (take n bs)) in
    let s = own_size calls o xs (from_front None xs (v ∷ vs) all) in
    let behind : List Item = (v ∷ vs) ++ items_of_words (flat_all ms) (drop n bs) in
    record {
      front = xs;
      behind = behind;
      chars = lexeme_chars kind n bs ms xs v vs e;
      size = sym s;
      rest = subst (λ (i : ℕ). Rest pages calls (text_spans (stretches pages at start bs (more (lexeme (kind, n)) ms))) at (more (lexeme (kind, n)) ms) (at + i) ys behind) (sym s)
          (lexeme_rest pages calls k at start bs kind n ms xs v vs ys a e g);
    }

-- ---- past a member

-- a place behind a member is in no call that it is
abbrev pub member_stretches : Pages → ℕ → Bool → List ℕ → Member → List Stretch
member_stretches pages at start bs m = stretches_of (page_reading pages) at start bs m

clear_behind : (q at : ℕ) (m : Member) (ms : Members) → at + width m ≤ q → IsClear q (at + width m) ms → IsClear q at (more m ms)
clear_behind q at (lexeme w) ms le c = (tt, c)
clear_behind q at (call k is) ms le c = (inr le, c)

pub rest_more : (pages : Pages) (calls : List OuterCall) (at : ℕ) (start : Bool) (bs : List ℕ) (m : Member) (ms : Members) (p : ℕ) (ys qs : List Item) → at + width m ≤ p
    → Rest pages calls (text_spans (stretches pages (at + width m) (is_break (slice_index bs (width m - 1))) (drop (width m) bs) ms)) (at + width m) ms p ys qs
    → Rest pages calls (text_spans (stretches pages at start bs (more m ms))) at (more m ms) p ys qs
rest_more pages calls at start bs m ms p ys qs le r =
    let first : List Stretch = member_stretches pages at start bs m in
    let others : List Stretch = stretches pages (at + width m) (is_break (slice_index bs (width m - 1))) (drop (width m) bs) ms in
    record {
      left = r.left;
      number = r.number;
      place = r.place;
      start = r.start;
      bytes = r.bytes;
      later = r.later;
      items = r.items;
      chars = r.chars;
      own = r.own;
      size = r.size;
      are = r.are;
      texts = λ from to h. r.texts from to (beside_rest from to (text_spans first) (text_spans others) (subst (AreBeside from to) (spans_both first others) h));
      clear = λ q lq c. clear_behind q at m ms (omega (arith, lq, le)) (r.clear q lq c);
    }

found_more : (pages : Pages) (calls : List OuterCall) (at : ℕ) (start : Bool) (bs : List ℕ) (m : Member) (ms : Members) (n : ℕ) (ys : List Item)
    → width m ≤ length bs
    → Found pages calls (text_spans (stretches pages (at + width m) (is_break (slice_index bs (width m - 1))) (drop (width m) bs) ms)) (at + width m) (drop (width m) bs) ms n ys
    → Found pages calls (text_spans (stretches pages at start bs (more m ms))) at bs (more m ms) (width m + n) ys
found_more pages calls at start bs m ms n ys le f =
    let own_items : List Item = items_of_words (flat m) bs in
    let w = flat_width m in
    let s = words_size (flat m) bs (omega (arith, w, le)) in
    let t = sources_size own_items f.front in
    let g = f.size in
    let place_so : (at + width m) + n ≡ at + (width m + n) = omega arith in
    let now = rest_more pages calls at start bs m ms ((at + width m) + n) ys f.behind (omega arith) f.rest in
    record {
      front = own_items ++ f.front;
      behind = f.behind;
      chars =
          items_append (flat m) (flat_all ms) bs
          ∙ ap (λ (i : ℕ). own_items ++ items_of_words (flat_all ms) (drop i bs)) w
          ∙ ap (λ zs. own_items ++ zs) f.chars ∙ sym (append_assoc own_items f.front f.behind);
      size = omega (arith, s, t, g, w);
      rest = subst (λ (p : ℕ). Rest pages calls (text_spans (stretches pages at start bs (more m ms))) at (more m ms) p ys f.behind) place_so now;
    }

-- the members behind the first
pub at_lexeme : (pages : Pages) (calls : List OuterCall) (k at : ℕ) (start : Bool) (bs : List ℕ) (kind : LexKind) (n : ℕ) (ms : Members)
    → AreAt pages calls k at start bs (more (lexeme (kind, n)) ms) → AreAt pages calls k (at + n) (is_break (slice_index bs (n - 1))) (drop n bs) ms
at_lexeme pages calls k at start bs kind n ms a =
    let d = length-drop n bs in record { full = a.full.1; long = omega (arith, a.long, d); named = a.named }

pub at_next : (pages : Pages) (calls : List OuterCall) (k at : ℕ) (start : Bool) (bs : List ℕ) (m : Member) (ms : Members)
    → AreAt pages calls k at start bs (more m ms)
    → AreAt pages calls (k + length (outer_calls (member_stretches pages at start bs m))) (at + width m) (is_break (slice_index bs (width m - 1))) (drop (width m) bs) ms
at_next pages calls k at start bs m ms a =
    let first : List Stretch = member_stretches pages at start bs m in
    let others : List Stretch = stretches pages (at + width m) (is_break (slice_index bs (width m - 1))) (drop (width m) bs) ms in
    let n = named_both calls k (outer_calls first) (outer_calls others) (subst (AreSourcesAt calls k) (outers_both first others) a.named) in
    let d = length-drop (width m) bs in
    record { full = a.full.1; long = omega (arith, a.long, d); named = n.1 }

pub named_first : (pages : Pages) (calls : List OuterCall) (k at : ℕ) (start : Bool) (bs : List ℕ) (m : Member) (ms : Members)
    → AreAt pages calls k at start bs (more m ms) → AreSourcesAt calls k (outer_calls (member_stretches pages at start bs m))
named_first pages calls k at start bs m ms a =
    let first : List Stretch = member_stretches pages at start bs m in
    let others : List Stretch = stretches pages (at + width m) (is_break (slice_index bs (width m - 1))) (drop (width m) bs) ms in
    let n = named_both calls k (outer_calls first) (outer_calls others) (subst (AreSourcesAt calls k) (outers_both first others) a.named) in n.0

-- ---- where the cut is

pub find : (pages : Pages) (calls : List OuterCall) (o : Option ℕ) (k at : ℕ) (start : Bool) (bs : List ℕ) (ms : Members) (xs ys : List Item) → IsBelow k o
    → AreAt pages calls k at start bs ms → given pages k at start bs ms ≡ xs ++ ys → IsOwnSeam xs ys
    → AreBeside (at + length (text_from calls o xs)) (at + length (text_from calls o xs)) (text_spans (stretches pages at start bs ms))
    → Found pages calls (text_spans (stretches pages at start bs ms)) at bs ms (length (text_from calls o xs)) ys
find pages calls o k at start bs ms [] ys b a e h t = found_here pages calls k at start bs ms ys a e
find pages calls o k at start bs none (x ∷ xs) ys b a e h t = absurd (cc)
find pages calls o k at start bs (more (lexeme (kind, n)) ms) (x ∷ xs) ys b a e h t =
    by (λ us f g q. find pages calls (last_of o (items_of_word kind (take n bs))) k (at + n) (is_break (slice_index bs (n - 1))) (drop n bs) ms us ys
    (below_own k o (items_of_word kind (take n bs)) b (form_from (form_of kind (take n bs)) None (take n bs))) (at_lexeme pages calls k at start bs kind n ms a) f g q)
    (two_cuts (x ∷ xs) ys own_items rest (sym e))
  where
    own_items : List Item
    own_items = items_of_word kind (take n bs)

    next : Bool
    next = is_break (slice_index bs (n - 1))

    rest : List Item
    rest = given pages k (at + n) next (drop n bs) ms

    from_page : AllFrom None own_items
    from_page = form_from (form_of kind (take n bs)) None (take n bs)

    own_bytes : length (text_from calls o own_items) ≡ n
    own_bytes =
        let s = own_size calls o own_items from_page in
        let w = words_size ((kind, n) ∷ []) bs (omega (arith, a.long)) in
        let z = ap (λ (zs : List Item). length (sources zs)) (append-nil own_items) in
        omega (arith, s, w, z)

    by : ((us : List Item) → rest ≡ us ++ ys → IsOwnSeam us ys
        → AreBeside ((at + n) + length (text_from calls (last_of o own_items) us)) ((at + n) + length (text_from calls (last_of o own_items) us))
        (text_spans (stretches pages (at + n) next (drop n bs) ms))
        → Found pages calls (text_spans (stretches pages (at + n) next (drop n bs) ms)) (at + n) (drop n bs) ms (length (text_from calls (last_of o own_items) us)) ys)
        → FirstLonger (x ∷ xs) ys own_items rest ⊎ FirstShorter (x ∷ xs) ys own_items rest
        → Found pages calls (text_spans (stretches pages at start bs (more (lexeme (kind, n)) ms))) at bs (more (lexeme (kind, n)) ms) (length (text_from calls o (x ∷ xs))) ys
    by go (inl l) =
        let m : ℕ = length (text_from calls (last_of o own_items) l.us) in
        let size : length (text_from calls o (x ∷ xs)) ≡ n + m =
        ap (λ (zs : List Item). length (text_from calls o zs)) l.xs_are ∙ text_size calls o own_items l.us ∙ ap (λ (i : ℕ). i + m) own_bytes in
        let place : at + length (text_from calls o (x ∷ xs)) ≡ (at + n) + m = omega (arith, size) in
        let seam : IsOwnSeam l.us ys = seam_rest own_items l.us ys (subst (λ zs. IsOwnSeam zs ys) l.xs_are h) in
        let f = go l.us l.bs_are seam (subst (λ (p : ℕ). AreBeside p p (text_spans (stretches pages (at + n) next (drop n bs) ms))) place t) in
        subst (λ (i : ℕ). Found pages calls (text_spans (stretches pages at start bs (more (lexeme (kind, n)) ms))) at bs (more (lexeme (kind, n)) ms) i ys) (sym size)
        (found_more pages calls at start bs (lexeme (kind, n)) ms m ys (omega (arith, a.long)) f)
    by go (inr s) = lexeme_found pages calls o k at start bs kind n ms (x ∷ xs) s.v s.vs ys a s.gs_are s.ys_are
find pages calls o k at start bs (more (call j is) ms) (x ∷ xs) ys b a e h t =
    by (λ us f g q. find pages calls (last_of o (numbered k (member_stretches pages at start bs (call j is))))
    (k + length (outer_calls (member_stretches pages at start bs (call j is)))) (at + width (call j is)) (is_break (slice_index bs (width (call j is) - 1)))
    (drop (width (call j is)) bs) ms us ys
    (below_all k o (member_stretches pages at start bs (call j is)) b (own_one (page_reading pages) at start bs (call j is)))
    (at_next pages calls k at start bs (call j is) ms a) f g q)
    (two_cuts (x ∷ xs) ys own_items rest (sym e ∙ numbered_both k first others))
  where
    m : Member
    m = call j is

    next : Bool
    next = is_break (slice_index bs (width m - 1))

    first : List Stretch
    first = member_stretches pages at start bs m

    others : List Stretch
    others = stretches pages (at + width m) next (drop (width m) bs) ms

    own_items : List Item
    own_items = numbered k first

    number : ℕ
    number = k + length (outer_calls first)

    rest : List Item
    rest = numbered number others

    fits : width m ≤ length bs
    fits = omega (arith, a.long)

    own_bytes : length (text_from calls o own_items) ≡ width m
    own_bytes = member_text pages calls o k at start bs m b fits (named_first pages calls k at start bs m ms a)

    spans : text_spans (first ++ others) ≡ text_spans first ++ text_spans others
    spans = spans_both first others

    by : ((us : List Item) → rest ≡ us ++ ys → IsOwnSeam us ys
        → AreBeside ((at + width m) + length (text_from calls (last_of o own_items) us)) ((at + width m) + length (text_from calls (last_of o own_items) us)) (text_spans others)
        → Found pages calls (text_spans others) (at + width m) (drop (width m) bs) ms (length (text_from calls (last_of o own_items) us)) ys)
        → FirstLonger (x ∷ xs) ys own_items rest ⊎ FirstShorter (x ∷ xs) ys own_items rest
        → Found pages calls (text_spans (stretches pages at start bs (more m ms))) at bs (more m ms) (length (text_from calls o (x ∷ xs))) ys
    by go (inl l) =
        let i : ℕ = length (text_from calls (last_of o own_items) l.us) in
        let size : length (text_from calls o (x ∷ xs)) ≡ width m + i =
        ap (λ (zs : List Item). length (text_from calls o zs)) l.xs_are ∙ text_size calls o own_items l.us ∙ ap (λ (d : ℕ). d + i) own_bytes in
        let place : at + length (text_from calls o (x ∷ xs)) ≡ (at + width m) + i = omega (arith, size) in
        let seam : IsOwnSeam l.us ys = seam_rest own_items l.us ys (subst (λ zs. IsOwnSeam zs ys) l.xs_are h) in
        let p : ℕ = at + length (text_from calls o (x ∷ xs)) in
        let beside : AreBeside p p (text_spans others) = beside_rest p p (text_spans first) (text_spans others) (subst (AreBeside p p) spans t) in
        let f = go l.us l.bs_are seam (subst (λ (d : ℕ). AreBeside d d (text_spans others)) place beside) in
        subst (λ (d : ℕ). Found pages calls (text_spans (stretches pages at start bs (more m ms))) at bs (more m ms) d ys) (sym size)
        (found_more pages calls at start bs m ms i ys fits f)
    by go (inr s) =
        let r : Reading = page_reading pages in
        let os = outputs_of r false (drop j bs) is in
        let ps = part_outputs (part_members 0 is) os in
        let source = take (j + width_of_all is + j) bs in
        let size = length-take (j + width_of_all is + j) bs in
        let all : length (text_from calls o ((x ∷ xs) ++ s.v ∷ s.vs)) ≡ width m =
        ap (λ (zs : List Item). length (text_from calls o zs)) (sym s.gs_are) ∙ own_bytes in
        absurd (not_in calls o (called j source (target_part ps).items) r start at j source is ps os (all_stretches r (at + j) false (drop j bs) is) k
        (text_spans others) x xs s.v s.vs rest a.full.0.0 (omega (arith, size, fits)) s.gs_are (subst (IsOwnSeam (x ∷ xs)) s.ys_are h) all
        (subst (AreBeside (at + length (text_from calls o (x ∷ xs))) (at + length (text_from calls o (x ∷ xs)))) spans t))
