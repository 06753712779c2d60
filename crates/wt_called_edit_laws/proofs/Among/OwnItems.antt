-- Items of the page's own side by side in an expanded page are the same where calls are characters. And the rest of a page, cut again.
use Rattle.std.proofs.Common.{arith, ◌≡◌, ◌⊎◌, inl, inr, ℕ, suc, ◌+◌, ◌-◌, ◌≤◌, Bool, true, false, Option, None, List, [], ◌∷◌, ◌++◌, length, take, drop, refl, sym, ap, ◌∙◌, subst, append_assoc, append-nil, length-take}
use Rattle.std.specs.Prelude.{slice_index}
use Rattle.wt_span.specs.declared.form.Mode.TheVariants as mode
use Rattle.wt_span.specs.declared.form.ItemForm.TheVariants as form
use Rattle.wt_span.specs.Bytes.{is_break}
use Rattle.wt_span.specs.Items.{Item, char, whole, source, sources, call_of}
use Rattle.wt_span.specs.Lexemes.{words}
use Rattle.wt_span.specs.Origins.{OuterCall, Span}
use Rattle.wt_span.specs.Braces.{Member, Members, lexeme, call, none, more, members, width, width_of_all, reduced}
use Rattle.wt_annotated.specs.Seams.{last_of, text_from}
use Rattle.wt_braces.specs.PartMembers.{part_members}
use Rattle.wt_expand.specs.PageItems.{items_of_word, items_of_words, page_items}
use Rattle.wt_expand.specs.Targets.{Called, argument, choice, function, page, text, called}
use Rattle.wt_expand.specs.Work.{Pages}
use Rattle.wt_expand.specs.Expansion.{Output, chars, PartOutput, part_outputs, target_part, Reading, front_braces, called_output, outputs_of, text_members, page_reading}
use Rattle.wt_expand.specs.PageCalls.{Stretch, own, outer_at, call_stretches, all_stretches, outer_items, numbered, outer_calls, text_spans, page_stretches, expanded_page}
use Rattle.wt_expand.proofs.PiecePlaces.{AllFrom}
use Rattle.wt_transclusion.specs.Stretch.{AreFull, AllFull}
use Rattle.wt_transclusion.proofs.Full.{full_text, text_bytes}
use Rattle.wt_part_laws.proofs.ApartStretches.{numbered_both, spans_both}
use Rattle.wt_called_edit_laws.specs.LinedAmong.{IsNoFunction, AreOfPage, AreBeside}
use Rattle.wt_called_edit_laws.specs.PartTexts.{AreSourcesAt}
use Rattle.wt_called_edit_laws.proofs.Among.Flattened.{flat_all, page_members}
use Rattle.wt_called_edit_laws.proofs.Among.Members.{front_size, words_size}
use Rattle.wt_called_edit_laws.proofs.Among.OwnSeams.{FirstLonger, FirstShorter, two_cuts, first_or, sources_size, from_front, from_rest, own_last, text_size, own_size, some_bytes, IsOwnSeam, seam_rest, stretches, given, member_stretches, AreAt, Rest, all_left, none_some, lexeme_rest, lexeme_chars, rest_more, at_lexeme, find}
use Rattle.wt_called_edit_laws.proofs.Among.PartsApart.{IsClear, members_of}
use Rattle.wt_called_edit_laws.proofs.PartTexts.{sources_first}

-- ---- the page's own

pub from_page : (xs : List Item) → AreOfPage xs → AllFrom None xs
from_page [] h = tt
from_page (x ∷ xs) h = (h.0, from_page xs h.2)

of_rest : (xs ys : List Item) → AreOfPage (xs ++ ys) → AreOfPage ys
of_rest [] ys h = h
of_rest (x ∷ xs) ys h = of_rest xs ys h.2

-- ---- the first of them is in no call

not_call : (j : ℕ) (c : OuterCall) (ys : List Item) (x : Item) (rest zs : List Item) → (outer_items j c ys ++ []) ++ rest ≡ x ∷ zs → call_of x ≡ None → ⊥
not_call j c [] x rest zs e h = none_some (call_of x) j h (ap (λ (us : List Item). call_of (first_or x us)) (sym e))
not_call j c (char o b ∷ ys) x rest zs e h = none_some (call_of x) j h (ap (λ (us : List Item). call_of (first_or x us)) (sym e))
not_call j c (whole f o bs ∷ ys) x rest zs e h = none_some (call_of x) j h (ap (λ (us : List Item). call_of (first_or x us)) (sym e))

not_kept : (x : Item) (written : List ℕ) (rest zs : List Item) → ((whole form.Function None written ∷ []) ++ []) ++ rest ≡ x ∷ zs → IsNoFunction x → ⊥
not_kept x written rest zs e h =
    let is : x ≡ whole form.Function None written = ap (λ (us : List Item). first_or x us) (sym e) in
    let no : IsNoFunction (whole form.Function None written) = subst IsNoFunction is h in
    no refl

not_braces : (j at k n : ℕ) (written : List ℕ) (inside : List Stretch) (x : Item) (rest zs : List Item) (from to : ℕ) → 2 ≤ k → length written ≡ k + n + k
    → (chars (front_braces k written) ++ numbered j (inside ++ own (chars (drop (length written - k) written)) ∷ [])) ++ rest ≡ x ∷ zs → from ≤ at
    → (1 ≤ length (source x) → suc at ≤ to) → ((at + (k + n + k) ≤ from) ⊎ (to ≤ at)) → ⊥
not_braces j at k n written inside x rest zs from to two size e le some h =
    let fs = front_size k n written size in
    let front = some_bytes (front_braces k written) (omega (arith, fs, two)) in
    let tail : List Item = numbered j (inside ++ own (chars (drop (length written - k) written)) ∷ []) in
    let is : x ≡ char None front.0 =
    ap (λ (us : List Item). first_or x us) (sym (ap (λ (cs : List ℕ). (chars cs ++ tail) ++ rest) (sym front.2) ∙ e)) in
    let s : length (source x) ≡ 1 = ap (λ (y : Item). length (source y)) is in
    let past = some (omega (arith, s)) in
    elim h [
      | inl l ↦ omega (arith, l, le, two)
      | inr r ↦ omega (arith, r, past)
    ]

not_own : (c : Called) (r : Reading) (start : Bool) (at k : ℕ) (written : List ℕ) (ms : Members) (ps : List PartOutput) (os : List Output) (inside : List Stretch)
    (j : ℕ) (spans : List Span) (x : Item) (rest zs : List Item) (from to : ℕ) → 2 ≤ k → length written ≡ k + width_of_all ms + k
    → numbered j (call_stretches c at k written ms (called_output c r start k written ps os).items inside) ++ rest ≡ x ∷ zs → call_of x ≡ None → IsNoFunction x
    → from ≤ at → (1 ≤ length (source x) → suc at ≤ to)
    → AreBeside from to (text_spans (call_stretches c at k written ms (called_output c r start k written ps os).items inside) ++ spans) → ⊥
not_own argument r start at k written ms ps os inside j spans x rest zs from to two size e own_item kept le some b =
    not_call j (outer_at at k written ms argument) _ x rest zs e own_item
not_own (choice f n) r start at k written ms ps os inside j spans x rest zs from to two size e own_item kept le some b =
    not_call j (outer_at at k written ms (choice f n)) _ x rest zs e own_item
not_own function r start at k written ms ps os inside j spans x rest zs from to two size e own_item kept le some b = not_kept x written rest zs e kept
not_own (page t) r start at k written ms ps os inside j spans x rest zs from to two size e own_item kept le some b =
    not_call j (outer_at at k written ms (page t)) _ x rest zs e own_item
not_own text r start at k written ms ps os inside j spans x rest zs from to two size e own_item kept le some b =
    not_braces j at k (width_of_all ms) written inside x rest zs from to two size e le some b.0

-- ---- so they are the same

pub record OwnFound (pages : Pages) (calls : List OuterCall) (spans : List Span) (at : ℕ) (bs : List ℕ) (ms : Members) (os ys : List Item) : Type 0 where
  pub behind : List Item
  pub chars : items_of_words (flat_all ms) bs ≡ os ++ behind
  pub rest : Rest pages calls spans at ms (at + length (sources os)) ys behind

own_find : (pages : Pages) (calls : List OuterCall) (k at : ℕ) (start : Bool) (bs : List ℕ) (ms : Members) (os ys : List Item) (from to : ℕ)
    → AreAt pages calls k at start bs ms → given pages k at start bs ms ≡ os ++ ys → AreOfPage os → from ≤ at → at + length (sources os) ≡ to
    → AreBeside from to (text_spans (stretches pages at start bs ms)) → OwnFound pages calls (text_spans (stretches pages at start bs ms)) at bs ms os ys
own_find pages calls k at start bs ms [] ys from to a e h le size b =
    let S : List Span = text_spans (stretches pages at start bs ms) in
    record {
      behind = items_of_words (flat_all ms) bs;
      chars = refl;
      rest = subst (λ zs. Rest pages calls S at ms (at + 0) zs (items_of_words (flat_all ms) bs)) e (all_left pages calls k at start bs ms a);
    }
own_find pages calls k at start bs none (x ∷ os) ys from to a e h le size b = absurd (cc)
own_find pages calls k at start bs (more (lexeme (kind, n)) ms) (x ∷ os) ys from to a e h le size b =
    by (λ us f g p. own_find pages calls k (at + n) (is_break (slice_index bs (n - 1))) (drop n bs) ms us ys from to (at_lexeme pages calls k at start bs kind n ms a)
    f g (omega (arith, le)) p b)
    (two_cuts (x ∷ os) ys own_items rest (sym e))
  where
    own_items : List Item
    own_items = items_of_word kind (take n bs)

    next : Bool
    next = is_break (slice_index bs (n - 1))

    rest : List Item
    rest = given pages k (at + n) next (drop n bs) ms

    all : Members
    all = more (lexeme (kind, n)) ms

    spans : List Span
    spans = text_spans (stretches pages at start bs (more (lexeme (kind, n)) ms))

    by : ((us : List Item) → rest ≡ us ++ ys → AreOfPage us → (at + n) + length (sources us) ≡ to
        → OwnFound pages calls (text_spans (stretches pages (at + n) next (drop n bs) ms)) (at + n) (drop n bs) ms us ys)
        → FirstLonger (x ∷ os) ys own_items rest ⊎ FirstShorter (x ∷ os) ys own_items rest → OwnFound pages calls spans at bs all (x ∷ os) ys
    by go (inl l) =
        let w = words_size ((kind, n) ∷ []) bs (omega (arith, a.long)) in
        let z = ap (λ (zs : List Item). length (sources zs)) (append-nil own_items) in
        let t = ap (λ (zs : List Item). length (sources zs)) l.xs_are ∙ sources_size own_items l.us in
        let place : (at + n) + length (sources l.us) ≡ to = omega (arith, size, t, w, z) in
        let f = go l.us l.bs_are (of_rest own_items l.us (subst AreOfPage l.xs_are h)) place in
        let now = rest_more pages calls at start bs (lexeme (kind, n)) ms ((at + n) + length (sources l.us)) ys f.behind (omega arith) f.rest in
        record {
          behind = f.behind;
          chars = ap (λ zs. own_items ++ zs) f.chars ∙ sym (append_assoc own_items l.us f.behind) ∙ ap (λ zs. zs ++ f.behind) (sym l.xs_are);
          rest = subst (λ (p : ℕ). Rest pages calls spans at all p ys f.behind) (place ∙ sym size) now;
        }
    by go (inr s) = record {
      behind = (s.v ∷ s.vs) ++ items_of_words (flat_all ms) (drop n bs);
      chars = lexeme_chars kind n bs ms (x ∷ os) s.v s.vs s.gs_are;
      rest = lexeme_rest pages calls k at start bs kind n ms (x ∷ os) s.v s.vs ys a s.gs_are s.ys_are;
    }
own_find pages calls k at start bs (more (call j is) ms) (x ∷ os) ys from to a e h le size b =
    let m : Member = call j is in
    let first : List Stretch = member_stretches pages at start bs m in
    let others : List Stretch = stretches pages (at + width m) (is_break (slice_index bs (width m - 1))) (drop (width m) bs) ms in
    let r : Reading = page_reading pages in
    let outs = outputs_of r false (drop j bs) is in
    let ps = part_outputs (part_members 0 is) outs in
    let call_source = take (j + width_of_all is + j) bs in
    let t = length-take (j + width_of_all is + j) bs in
    let u = sources_size (x ∷ []) os in
    let v = append-nil (source x) in
    let w = ap length v in
    absurd (not_own (called j call_source (target_part ps).items) r start at j call_source is ps outs (all_stretches r (at + j) false (drop j bs) is) k (text_spans others) x
    (numbered (k + length (outer_calls first)) others) (os ++ ys) from to a.full.0.0 (omega (arith, t, a.long)) (sym (numbered_both k first others) ∙ e) h.0 h.1 le
    (λ some. omega (arith, size, some, u, w)) (subst (AreBeside from to) (spans_both first others) b))

-- ---- the rest of a page, cut again

within : (pages : Pages) (calls : List OuterCall) (spans : List Span) (at : ℕ) (ms : Members) (p : ℕ) (ys qs : List Item) (r : Rest pages calls spans at ms p ys qs)
    (q : ℕ) (us rs : List Item) → p ≤ q → Rest pages calls (text_spans (stretches pages r.place r.start r.bytes r.later)) r.place r.later q us rs
    → Rest pages calls spans at ms q us rs
within pages calls spans at ms p ys qs r q us rs le f = record {
  left = f.left;
  number = f.number;
  place = f.place;
  start = f.start;
  bytes = f.bytes;
  later = f.later;
  items = f.items;
  chars = f.chars;
  own = f.own;
  size = f.size;
  are = f.are;
  texts = λ from to h. f.texts from to (r.texts from to h);
  clear = λ i li c. r.clear i (omega (arith, li, le)) (f.clear i li c);
}

-- in what is left of a lexeme
within_left : (pages : Pages) (calls : List OuterCall) (spans : List Span) (at : ℕ) (ms : Members) (p : ℕ) (ys qs : List Item) (r : Rest pages calls spans at ms p ys qs)
    (xs : List Item) (v : Item) (vs us : List Item) → r.left ≡ xs ++ v ∷ vs → us ≡ (v ∷ vs) ++ given pages r.number r.place r.start r.bytes r.later
    → Rest pages calls spans at ms (p + length (sources xs)) us ((v ∷ vs) ++ items_of_words (flat_all r.later) r.bytes)
within_left pages calls spans at ms p ys qs r xs v vs us e g =
    let all : AllFrom None (xs ++ v ∷ vs) = subst (AllFrom None) e r.own in
    let s = ap (λ (zs : List Item). length (sources zs)) e ∙ sources_size xs (v ∷ vs) in
    let z = r.size in
    record {
      left = v ∷ vs;
      number = r.number;
      place = r.place;
      start = r.start;
      bytes = r.bytes;
      later = r.later;
      items = g;
      chars = refl;
      own = from_rest None xs (v ∷ vs) all;
      size = omega (arith, s, z);
      are = r.are;
      texts = r.texts;
      clear = λ i li c. r.clear i (omega (arith, li)) c;
    }

-- past items before a cut among the page's own
pub record Skipped (pages : Pages) (calls : List OuterCall) (spans : List Span) (at : ℕ) (ms : Members) (p : ℕ) (xs ys qs : List Item) : Type 0 where
  pub front : List Item
  pub behind : List Item
  pub chars : qs ≡ front ++ behind
  pub size : length (sources front) ≡ length (text_from calls None xs)
  pub rest : Rest pages calls spans at ms (p + length (text_from calls None xs)) ys behind

pub skip : (pages : Pages) (calls : List OuterCall) (spans : List Span) (at : ℕ) (ms : Members) (p : ℕ) (xs ys qs : List Item)
    → Rest pages calls spans at ms p (xs ++ ys) qs → IsOwnSeam xs ys
    → AreBeside (p + length (text_from calls None xs)) (p + length (text_from calls None xs)) spans → Skipped pages calls spans at ms p xs ys qs
skip pages calls spans at ms p xs ys qs r h b = by (two_cuts xs ys r.left later r.items)
  where
    later : List Item
    later = given pages r.number r.place r.start r.bytes r.later

    end : ℕ
    end = p + length (text_from calls None xs)

    by : FirstLonger xs ys r.left later ⊎ FirstShorter xs ys r.left later → Skipped pages calls spans at ms p xs ys qs
    by (inl l) =
        let n : ℕ = length (text_from calls None l.us) in
        let o = own_last r.left r.own in
        let s : length (text_from calls None xs) ≡ length (sources r.left) + n =
        ap (λ (zs : List Item). length (text_from calls None zs)) l.xs_are ∙ text_size calls None r.left l.us
        ∙ ap (λ (i : ℕ). i + length (text_from calls (last_of None r.left) l.us)) (own_size calls None r.left r.own)
        ∙ ap (λ (v : Option ℕ). length (sources r.left) + length (text_from calls v l.us)) o in
        let z = r.size in
        let place : end ≡ r.place + n = omega (arith, s, z) in
        let f = find pages calls None r.number r.place r.start r.bytes r.later l.us ys tt r.are l.bs_are (seam_rest r.left l.us ys (subst (λ zs. IsOwnSeam zs ys) l.xs_are h))
        (subst (λ (i : ℕ). AreBeside i i (text_spans (stretches pages r.place r.start r.bytes r.later))) place (r.texts end end b)) in
        let t = sources_size r.left f.front in
        let g = f.size in
        record {
          front = r.left ++ f.front;
          behind = f.behind;
          chars = r.chars ∙ ap (λ zs. r.left ++ zs) f.chars ∙ sym (append_assoc r.left f.front f.behind);
          size = omega (arith, s, t, g);
          rest = within pages calls spans at ms p (xs ++ ys) qs r end ys f.behind (omega arith)
              (subst (λ (i : ℕ). Rest pages calls (text_spans (stretches pages r.place r.start r.bytes r.later)) r.place r.later i ys f.behind) (sym place) f.rest);
        }
    by (inr s) =
        let all : AllFrom None (xs ++ s.v ∷ s.vs) = subst (AllFrom None) s.gs_are r.own in
        let t = own_size calls None xs (from_front None xs (s.v ∷ s.vs) all) in
        let behind : List Item = (s.v ∷ s.vs) ++ items_of_words (flat_all r.later) r.bytes in
        record {
          front = xs;
          behind = behind;
          chars = r.chars ∙ ap (λ zs. zs ++ items_of_words (flat_all r.later) r.bytes) s.gs_are
              ∙ append_assoc xs (s.v ∷ s.vs) (items_of_words (flat_all r.later) r.bytes);
          size = sym t;
          rest = subst (λ (i : ℕ). Rest pages calls spans at ms (p + i) ys behind) (sym t)
              (within_left pages calls spans at ms p (xs ++ ys) qs r xs s.v s.vs ys s.gs_are s.ys_are);
        }

-- past items of the page's own
pub record TakenOwn (pages : Pages) (calls : List OuterCall) (spans : List Span) (at : ℕ) (ms : Members) (p : ℕ) (os ys qs : List Item) : Type 0 where
  pub behind : List Item
  pub chars : qs ≡ os ++ behind
  pub rest : Rest pages calls spans at ms (p + length (sources os)) ys behind

pub take_own : (pages : Pages) (calls : List OuterCall) (spans : List Span) (at : ℕ) (ms : Members) (p : ℕ) (os ys qs : List Item)
    → Rest pages calls spans at ms p (os ++ ys) qs → AreOfPage os → AreBeside p (p + length (sources os)) spans → TakenOwn pages calls spans at ms p os ys qs
take_own pages calls spans at ms p os ys qs r h b = by (two_cuts os ys r.left later r.items)
  where
    later : List Item
    later = given pages r.number r.place r.start r.bytes r.later

    end : ℕ
    end = p + length (sources os)

    by : FirstLonger os ys r.left later ⊎ FirstShorter os ys r.left later → TakenOwn pages calls spans at ms p os ys qs
    by (inl l) =
        let s = ap (λ (zs : List Item). length (sources zs)) l.xs_are ∙ sources_size r.left l.us in
        let z = r.size in
        let place : r.place + length (sources l.us) ≡ end = omega (arith, s, z) in
        let f = own_find pages calls r.number r.place r.start r.bytes r.later l.us ys p end r.are l.bs_are (of_rest r.left l.us (subst AreOfPage l.xs_are h))
        (omega (arith, z)) place (r.texts p end b) in
        record {
          behind = f.behind;
          chars = r.chars ∙ ap (λ zs. r.left ++ zs) f.chars ∙ sym (append_assoc r.left l.us f.behind) ∙ ap (λ zs. zs ++ f.behind) (sym l.xs_are);
          rest = within pages calls spans at ms p (os ++ ys) qs r end ys f.behind (omega arith)
              (subst (λ (i : ℕ). Rest pages calls (text_spans (stretches pages r.place r.start r.bytes r.later)) r.place r.later i ys f.behind) place f.rest);
        }
    by (inr s) = record {
      behind = (s.v ∷ s.vs) ++ items_of_words (flat_all r.later) r.bytes;
      chars = r.chars ∙ ap (λ zs. zs ++ items_of_words (flat_all r.later) r.bytes) s.gs_are
          ∙ append_assoc os (s.v ∷ s.vs) (items_of_words (flat_all r.later) r.bytes);
      rest = within_left pages calls spans at ms p (os ++ ys) qs r os s.v s.vs ys s.gs_are s.ys_are;
    }

-- ---- no call goes over such a cut

before_all : (p at : ℕ) (ms : Members) → p ≤ at → IsClear p at ms
before_all p at none le = tt
before_all p at (more (lexeme w) ms) le = (tt, before_all p (at + width (lexeme w)) ms (omega (arith, le)))
before_all p at (more (call k is) ms) le = (inl le, before_all p (at + width (call k is)) ms (omega (arith, le)))

pub rest_clear : (pages : Pages) (calls : List OuterCall) (spans : List Span) (at : ℕ) (ms : Members) (p : ℕ) (ys qs : List Item)
    → Rest pages calls spans at ms p ys qs → IsClear p at ms
rest_clear pages calls spans at ms p ys qs r = let z = r.size in r.clear p (omega arith) (before_all p r.place r.later (omega (arith, z)))

-- ---- the page from its beginning on

pub full_members : (xs : List Member) → AllFull xs → AreFull (members xs)
full_members [] f = tt
full_members (x ∷ xs) f = (f.0, full_members xs f.1)

pub page_at : (pages : Pages) (bs : List ℕ) → AreAt pages (outer_calls (stretches pages 0 true bs (members_of bs))) 0 0 true bs (members_of bs)
page_at pages bs =
    let cs : List OuterCall = outer_calls (stretches pages 0 true bs (members_of bs)) in
    let t = text_bytes mode.Page bs in
    record {
      full = full_members (reduced (words mode.Page bs)) (full_text mode.Page bs);
      long = omega (arith, t);
      named = subst (λ (ds : List OuterCall). AreSourcesAt ds 0 cs) (append-nil cs) (sources_first cs []);
    }

pub whole_rest : (pages : Pages) (bs : List ℕ)
    → Rest pages (expanded_page pages bs).outer (expanded_page pages bs).text_calls 0 (members_of bs) 0 (expanded_page pages bs).items (page_items bs)
unfolding expanded_page page_stretches text_members
whole_rest pages bs =
    let cs : List OuterCall = outer_calls (stretches pages 0 true bs (members_of bs)) in
    let spans : List Span = text_spans (stretches pages 0 true bs (members_of bs)) in
    subst (λ zs. Rest pages cs spans 0 (members_of bs) 0 (given pages 0 0 true bs (members_of bs)) zs) (sym (page_members bs))
    (all_left pages cs 0 0 true bs (members_of bs) (page_at pages bs))
