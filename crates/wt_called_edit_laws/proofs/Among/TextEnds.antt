-- Where a call that is text begins and ends in the items of an expanded page: before a brace that opens, and behind a character of the page.
use Rattle.std.proofs.Common.{arith, ◌≡◌, ◌≤◌, ◌<◌, ℕ, zero, suc, ◌+◌, ◌-◌, Bool, false, Option, Some, None, List, [], ◌∷◌, ◌++◌, length, take, drop, refl, sym, ap, ◌∙◌, subst, append_assoc, append-nil, length-append, length-take, length-drop}
use Rattle.std.specs.Prelude.{slice_index}
use Rattle.wt_span.specs.Bytes.{is_break}
use Rattle.wt_span.specs.Items.{Item, char, sources}
use Rattle.wt_span.specs.Origins.{OuterCall, Span}
use Rattle.wt_span.specs.Lexemes.{Word}
use Rattle.wt_span.specs.declared.form.LexKind.TheVariants.{Opens, Closes}
use Rattle.wt_span.specs.Braces.{Member, Members, lexeme, call, none, more, width, width_of_all}
use Rattle.wt_annotated.specs.Seams.{last_of, text_from}
use Rattle.wt_braces.specs.PartMembers.{part_members}
use Rattle.wt_braces.specs.Words.{total_width}
use Rattle.wt_expand.specs.PageItems.{form_of, items_of_word}
use Rattle.wt_expand.specs.Targets.{Called, argument, choice, function, page, text, called}
use Rattle.wt_expand.specs.Work.{Pages}
use Rattle.wt_expand.specs.Expansion.{Output, chars, PartOutput, part_outputs, target_part, Reading, front_braces, back_braces, called_output, outputs_of, page_reading}
use Rattle.wt_expand.specs.PageCalls.{Stretch, own, call_stretches, all_stretches, numbered, outer_calls, text_spans}
use Rattle.wt_expand.proofs.PageLaws.{char_sources}
use Rattle.wt_expand.proofs.PiecePlaces.{AllFrom, form_from}
use Rattle.wt_part_laws.proofs.ApartStretches.{numbered_both, outers_both, spans_both}
use Rattle.wt_called_edit_laws.specs.PartTexts.{AreSourcesAt}
use Rattle.wt_called_edit_laws.proofs.Among.Flattened.{flat, flat_all}
use Rattle.wt_called_edit_laws.proofs.Among.Members.{front_size, back_size, member_text, below_all, named_both, flat_width, words_size}
use Rattle.wt_called_edit_laws.proofs.Among.OpenRuns.{AllOpening, AreOpened, opened_split}
use Rattle.wt_called_edit_laws.proofs.Among.OwnSeams.{AreAt, stretches, given, member_stretches, at_lexeme, at_next, named_first, own_size, text_size, some_bytes, last_bytes, chars_both}
use Rattle.wt_called_edit_laws.proofs.PartTexts.{own_one, IsBelow, below_own}

pub record IsTextIn (calls : List OuterCall) (o : Option ℕ) (at : ℕ) (xs : List Item) (s : Span) : Type 0 where
  pub front : List Item
  pub behind : List Item
  pub begins : xs ≡ front ++ char None 123 ∷ behind
  pub start : at + length (text_from calls o front) ≡ s.0
  pub inner : List Item
  pub last : ℕ
  pub rest : List Item
  pub ends : xs ≡ (inner ++ char None last ∷ []) ++ rest
  pub end : at + length (text_from calls o (inner ++ char None last ∷ [])) ≡ s.1
  pub some : s.0 < s.1

abbrev pub AreTextsIn : List OuterCall → Option ℕ → ℕ → List Item → List Span → Type 0
AreTextsIn calls o at xs [] = Unit {0}
AreTextsIn calls o at xs (s ∷ ss) = IsTextIn calls o at xs s × AreTextsIn calls o at xs ss

-- ---- among more items

behind_one : (calls : List OuterCall) (o : Option ℕ) (at : ℕ) (gs xs : List Item) (s : Span)
    → IsTextIn calls (last_of o gs) (at + length (text_from calls o gs)) xs s → IsTextIn calls o at (gs ++ xs) s
behind_one calls o at gs xs s t =
    let last : List Item = char None t.last ∷ [] in
    let a = text_size calls o gs t.front in
    let b = text_size calls o gs (t.inner ++ last) in
    let same = append_assoc gs t.inner last in
    let c = ap (λ (zs : List Item). length (text_from calls o zs)) same in
    record {
      front = gs ++ t.front;
      behind = t.behind;
      begins = ap (λ (zs : List Item). gs ++ zs) t.begins ∙ sym (append_assoc gs t.front (char None 123 ∷ t.behind));
      start = omega (arith, a, t.start);
      inner = gs ++ t.inner;
      last = t.last;
      rest = t.rest;
      ends = ap (λ (zs : List Item). gs ++ zs) t.ends ∙ sym (append_assoc gs (t.inner ++ last) t.rest) ∙ ap (λ (zs : List Item). zs ++ t.rest) (sym same);
      end = omega (arith, b, c, t.end);
      some = t.some;
    }

behind_all : (calls : List OuterCall) (o : Option ℕ) (at : ℕ) (gs xs : List Item) (ss : List Span)
    → AreTextsIn calls (last_of o gs) (at + length (text_from calls o gs)) xs ss → AreTextsIn calls o at (gs ++ xs) ss
behind_all calls o at gs xs [] h = tt
behind_all calls o at gs xs (s ∷ ss) h = (behind_one calls o at gs xs s h.0, behind_all calls o at gs xs ss h.1)

front_one : (calls : List OuterCall) (o : Option ℕ) (at : ℕ) (xs ys : List Item) (s : Span) → IsTextIn calls o at xs s → IsTextIn calls o at (xs ++ ys) s
front_one calls o at xs ys s t = record {
  front = t.front;
  behind = t.behind ++ ys;
  begins = ap (λ (zs : List Item). zs ++ ys) t.begins ∙ append_assoc t.front (char None 123 ∷ t.behind) ys;
  start = t.start;
  inner = t.inner;
  last = t.last;
  rest = t.rest ++ ys;
  ends = ap (λ (zs : List Item). zs ++ ys) t.ends ∙ append_assoc (t.inner ++ char None t.last ∷ []) t.rest ys;
  end = t.end;
  some = t.some;
}

front_all : (calls : List OuterCall) (o : Option ℕ) (at : ℕ) (xs ys : List Item) (ss : List Span) → AreTextsIn calls o at xs ss → AreTextsIn calls o at (xs ++ ys) ss
front_all calls o at xs ys [] h = tt
front_all calls o at xs ys (s ∷ ss) h = (front_one calls o at xs ys s h.0, front_all calls o at xs ys ss h.1)

both_in : (calls : List OuterCall) (o : Option ℕ) (at : ℕ) (xs : List Item) (ss ts : List Span) → AreTextsIn calls o at xs ss → AreTextsIn calls o at xs ts
    → AreTextsIn calls o at xs (ss ++ ts)
both_in calls o at xs [] ts h g = g
both_in calls o at xs (s ∷ ss) ts h g = (h.0, both_in calls o at xs ss ts h.1 g)

-- ---- one call

chars_from : (bs : List ℕ) → AllFrom None (chars bs)
chars_from [] = tt
chars_from (b ∷ bs) = (refl, chars_from bs)

first_brace : (j m : ℕ) (bs : List ℕ) → 1 ≤ j → j ≤ m → m ≤ length bs → AllOpening (take j bs) → (cs : List ℕ) × (front_braces j (take m bs) ≡ 123 ∷ cs)
first_brace zero m bs some le long h = absurd (omega (arith, some))
first_brace (suc j) zero bs some le long h = absurd (omega (arith, le))
first_brace (suc j) (suc m) [] some le long h = absurd (omega (arith, long))
first_brace (suc j) (suc m) (b ∷ bs) some le long h = (take j (take m bs), ap (λ (c : ℕ). c ∷ take j (take m bs)) h.0)

-- what a text call gives
abbrev text_items : ℕ → ℕ → List ℕ → List Stretch → List Item
text_items j k source inside = chars (front_braces k source) ++ numbered j (inside ++ own (chars (back_braces k source)) ∷ [])

text_in : (calls : List OuterCall) (o : Option ℕ) (at j k n : ℕ) (source cs : List ℕ) (inside : List Stretch) → 2 ≤ k → length source ≡ k + n + k
    → front_braces k source ≡ 123 ∷ cs → length (text_from calls o (text_items j k source inside)) ≡ k + n + k
    → IsTextIn calls o at (text_items j k source inside) (at, at + (k + n + k))
text_in calls o at j k n source cs inside two size first all =
    let bs = back_size k n source size in
    let back = some_bytes (back_braces k source) (omega (arith, bs, two)) in
    let last = last_bytes back.0 back.1 in
    let ending : chars (back_braces k source) ≡ chars last.0 ++ char None last.1 ∷ [] = ap chars (back.2 ∙ last.2) ∙ chars_both last.0 (last.1 ∷ []) in
    let before : List Item = numbered j inside in
    let front : List Item = chars (front_braces k source) in
    let inner : List Item = front ++ (before ++ chars last.0) in
    let tail : numbered j (inside ++ own (chars (back_braces k source)) ∷ []) ≡ (before ++ chars last.0) ++ char None last.1 ∷ [] =
    numbered_both j inside (own (chars (back_braces k source)) ∷ [])
    ∙ ap (λ zs. before ++ zs) (append-nil (chars (back_braces k source)) ∙ ending)
    ∙ sym (append_assoc before (chars last.0) (char None last.1 ∷ [])) in
    let whole_end : text_items j k source inside ≡ inner ++ char None last.1 ∷ [] =
    ap (λ zs. front ++ zs) tail ∙ sym (append_assoc front (before ++ chars last.0) (char None last.1 ∷ [])) in
    let long = ap (λ (zs : List Item). length (text_from calls o zs)) whole_end in
    record {
      front = [];
      behind = chars cs ++ numbered j (inside ++ own (chars (back_braces k source)) ∷ []);
      begins = ap (λ (ds : List ℕ). chars ds ++ numbered j (inside ++ own (chars (back_braces k source)) ∷ [])) first;
      start = omega arith;
      inner = inner;
      last = last.1;
      rest = [];
      ends = whole_end ∙ sym (append-nil (inner ++ char None last.1 ∷ []));
      end = omega (arith, long, all);
      some = omega (arith, two);
    }

-- and what is in it
inside_in : (calls : List OuterCall) (o : Option ℕ) (at j k n : ℕ) (source cs : List ℕ) (inside : List Stretch) → length source ≡ k + n + k
    → front_braces k source ≡ 123 ∷ cs → AreTextsIn calls None (at + k) (numbered j inside) (text_spans inside)
    → AreTextsIn calls o at (text_items j k source inside) (text_spans (inside ++ own (chars (back_braces k source)) ∷ []))
inside_in calls o at j k n source cs inside size first h =
    let front : List Item = chars (front_braces k source) in
    let back : List Item = chars (back_braces k source) in
    let tail : List Stretch = own back ∷ [] in
    let spans : text_spans (inside ++ tail) ≡ text_spans inside = spans_both inside tail ∙ append-nil (text_spans inside) in
    let fs = front_size k n source size in
    let cs_size = ap length (char_sources (front_braces k source)) in
    let own_bytes = own_size calls o front (chars_from (front_braces k source)) in
    let place : at + k ≡ at + length (text_from calls o front) = omega (arith, fs, cs_size, own_bytes) in
    let last : None ≡ last_of o front = own_last_of cs ∙ ap (λ (ds : List ℕ). last_of o (chars ds)) (sym first) in
    let inner : AreTextsIn calls None (at + k) (numbered j (inside ++ tail)) (text_spans inside) =
    subst (λ (zs : List Item). AreTextsIn calls None (at + k) zs (text_spans inside)) (sym (numbered_both j inside tail))
    (front_all calls None (at + k) (numbered j inside) (numbered (j + length (outer_calls inside)) tail) (text_spans inside) h) in
    subst (λ (ss : List Span). AreTextsIn calls o at (text_items j k source inside) ss) (sym spans)
    (behind_all calls o at front (numbered j (inside ++ tail)) (text_spans inside)
    (subst (λ (v : Option ℕ). AreTextsIn calls v (at + length (text_from calls o front)) (numbered j (inside ++ tail)) (text_spans inside)) last
    (subst (λ (p : ℕ). AreTextsIn calls None p (numbered j (inside ++ tail)) (text_spans inside)) place inner)))
  where
    own_last_of : (ds : List ℕ) → None ≡ last_of None (chars ds)
    own_last_of [] = refl
    own_last_of (d ∷ ds) = own_last_of ds

call_in : (calls : List OuterCall) (o : Option ℕ) (c : Called) (r : Reading) (start : Bool) (at k : ℕ) (source cs : List ℕ) (ms : Members) (ps : List PartOutput)
    (os : List Output) (inside : List Stretch) (j : ℕ) → 2 ≤ k → length source ≡ k + width_of_all ms + k → front_braces k source ≡ 123 ∷ cs
    → length (text_from calls o (numbered j (call_stretches c at k source ms (called_output c r start k source ps os).items inside))) ≡ k + width_of_all ms + k
    → (c ≡ text → AreTextsIn calls None (at + k) (numbered j inside) (text_spans inside))
    → AreTextsIn calls o at (numbered j (call_stretches c at k source ms (called_output c r start k source ps os).items inside))
    (text_spans (call_stretches c at k source ms (called_output c r start k source ps os).items inside))
call_in calls o argument r start at k source cs ms ps os inside j two size first all h = tt
call_in calls o (choice f n) r start at k source cs ms ps os inside j two size first all h = tt
call_in calls o function r start at k source cs ms ps os inside j two size first all h = tt
call_in calls o (page t) r start at k source cs ms ps os inside j two size first all h = tt
call_in calls o text r start at k source cs ms ps os inside j two size first all h = (
  text_in calls o at j k (width_of_all ms) source cs inside two size first all,
  inside_in calls o at j k (width_of_all ms) source cs inside size first (h refl),
)

-- ---- all of them

-- the calls in a text call
named_inside : (calls : List OuterCall) (c : Called) (at j k : ℕ) (source : List ℕ) (ms : Members) (items : List Item) (inside : List Stretch)
    → AreSourcesAt calls j (outer_calls (call_stretches c at k source ms items inside)) → c ≡ text → AreSourcesAt calls j (outer_calls inside)
named_inside calls c at j k source ms items inside s e =
    let tail : List Stretch = own (chars (back_braces k source)) ∷ [] in
    let all : AreSourcesAt calls j (outer_calls (inside ++ tail)) =
    subst (λ (d : Called). AreSourcesAt calls j (outer_calls (call_stretches d at k source ms items inside))) e s in
    (named_both calls j (outer_calls inside) (outer_calls tail) (subst (AreSourcesAt calls j) (outers_both inside tail) all)).0

pub texts_in : (pages : Pages) (calls : List OuterCall) (o : Option ℕ) (k at : ℕ) (start : Bool) (bs : List ℕ) (ms : Members) → IsBelow k o
    → AreAt pages calls k at start bs ms → AreOpened (flat_all ms) bs
    → AreTextsIn calls o at (given pages k at start bs ms) (text_spans (stretches pages at start bs ms))
texts_in pages calls o k at start bs none b a p = tt
texts_in pages calls o k at start bs (more (lexeme (kind, n)) ms) b a p =
    let own_items : List Item = items_of_word kind (take n bs) in
    let next : Bool = is_break (slice_index bs (n - 1)) in
    let from_page : AllFrom None own_items = form_from (form_of kind (take n bs)) None (take n bs) in
    let rest : List Item = given pages k (at + n) next (drop n bs) ms in
    let spans : List Span = text_spans (stretches pages (at + n) next (drop n bs) ms) in
    let s = own_size calls o own_items from_page in
    let w = words_size ((kind, n) ∷ []) bs (omega (arith, a.long)) in
    let z = ap (λ (zs : List Item). length (sources zs)) (append-nil own_items) in
    let place : at + n ≡ at + length (text_from calls o own_items) = omega (arith, s, w, z) in
    let go : AreTextsIn calls (last_of o own_items) (at + n) rest spans =
    texts_in pages calls (last_of o own_items) k (at + n) next (drop n bs) ms (below_own k o own_items b from_page) (at_lexeme pages calls k at start bs kind n ms a) p.1 in
    behind_all calls o at own_items rest spans (subst (λ (q : ℕ). AreTextsIn calls (last_of o own_items) q rest spans) place go)
texts_in pages calls o k at start bs (more (call j is) ms) b a p =
    let m : Member = call j is in
    let next : Bool = is_break (slice_index bs (width m - 1)) in
    let first : List Stretch = member_stretches pages at start bs m in
    let others : List Stretch = stretches pages (at + width m) next (drop (width m) bs) ms in
    let own_items : List Item = numbered k first in
    let number : ℕ = k + length (outer_calls first) in
    let rest : List Item = numbered number others in
    let fits : width m ≤ length bs = omega (arith, a.long) in
    let named : AreSourcesAt calls k (outer_calls first) = named_first pages calls k at start bs m ms a in
    let own_bytes : length (text_from calls o own_items) ≡ width m = member_text pages calls o k at start bs m b fits named in
    let open_parts = opened_split (flat m) (flat_all ms) bs p in
    let later : AreOpened (flat_all ms) (drop (width m) bs) = subst (λ (n : ℕ). AreOpened (flat_all ms) (drop n bs)) (flat_width m) open_parts.1 in
    let go : AreTextsIn calls (last_of o own_items) (at + width m) rest (text_spans others) =
    texts_in pages calls (last_of o own_items) number (at + width m) next (drop (width m) bs) ms (below_all k o first b (own_one (page_reading pages) at start bs m))
    (at_next pages calls k at start bs m ms a) later in
    let place : at + width m ≡ at + length (text_from calls o own_items) = omega (arith, own_bytes) in
    let behind : AreTextsIn calls o at (own_items ++ rest) (text_spans others) =
    behind_all calls o at own_items rest (text_spans others) (subst (λ (q : ℕ). AreTextsIn calls (last_of o own_items) q rest (text_spans others)) place go) in
    let r : Reading = page_reading pages in
    let os = outputs_of r false (drop j bs) is in
    let ps = part_outputs (part_members 0 is) os in
    let source : List ℕ = take (j + width_of_all is + j) bs in
    let size = length-take (j + width_of_all is + j) bs in
    let d = length-drop j bs in
    let c : Called = called j source (target_part ps).items in
    let inside : List Stretch = all_stretches r (at + j) false (drop j bs) is in
    let brace = first_brace j (j + width_of_all is + j) bs (omega (arith, a.full.0.0)) (omega arith) (omega (arith, fits)) (open_parts.0.0 refl) in
    let within : AreOpened (flat_all is) (drop j bs) = (opened_split (flat_all is) ((Closes, j) ∷ []) (drop j bs) open_parts.0.1).0 in
    let here : AreTextsIn calls o at own_items (text_spans first) =
    call_in calls o c r start at j source brace.0 is ps os inside k a.full.0.0 (omega (arith, size, fits)) brace.1 own_bytes
    (λ e. texts_in pages calls None k (at + j) false (drop j bs) is tt
    (record { full = a.full.0.1; long = omega (arith, d, fits); named = named_inside calls c at k j source is (called_output c r start j source ps os).items inside named e })
    within) in
    subst (λ (zs : List Item). AreTextsIn calls o at zs (text_spans (first ++ others))) (sym (numbered_both k first others))
    (subst (λ (ss : List Span). AreTextsIn calls o at (own_items ++ rest) ss) (sym (spans_both first others))
    (both_in calls o at (own_items ++ rest) (text_spans first) (text_spans others)
    (front_all calls o at own_items rest (text_spans first) here) behind))
