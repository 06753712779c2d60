-- The items of an expanded page whose work isn't refused have at most as many bytes as the page and what an expansion may cost.
use Rattle.std.proofs.Common.{◌≡◌, ℕ, suc, ◌+◌, ◌-◌, ◌≤◌, Bool, true, false, Option, Some, None, List, [], ◌∷◌, ◌++◌, length, map, drop, take, refl, ap, ◌∙◌, arith, length-append}
use Rattle.std.specs.Prelude.{nat_lt, slice_index, if◌then◌else◌}
use Rattle.std.specs.Option.{option_or}
use Rattle.std.proofs.lemmas.Bool.Decides.{nat_tests}
use Rattle.std.proofs.lemmas.List.Concat.{flat_map-append}
use Rattle.wt_span.specs.declared.form.Mode.TheVariants as mode
use Rattle.wt_span.specs.Bytes.{is_break}
use Rattle.wt_span.specs.Items.{Item, char, whole, source, sources}
use Rattle.wt_span.specs.Origins.{OuterCall}
use Rattle.wt_span.specs.Braces.{Member, Members, lexeme, call, none, more, width, width_of_all}
use Rattle.wt_braces.specs.PartMembers.{part_members}
use Rattle.wt_expand.specs.Stretches.{page_bytes}
use Rattle.wt_expand.specs.Texts.{name_text}
use Rattle.wt_expand.specs.Targets.{Called, argument, choice, function, page, text, called}
use Rattle.wt_expand.specs.Work.{Pages, Entry, entered, begun, fetched, ended, too_large, most_cost, cost_of, if_large, entry_refusal, refusal_from, first_refusal}
use Rattle.wt_expand.specs.Expansion.{Output, joined, chars, PartOutput, part_outputs, target_part, later_parts, value_of, values_from, parts_work, default_output, if_value, with_break, function_output, Reading, back_braces, called_output, output_of, outputs_of, text_members, page_reading, page_work}
use Rattle.wt_expand.specs.PageCalls.{Stretch, own, outer, text_call, call_stretches, stretches_of, all_stretches, from_call, outer_items, numbered, page_stretches, expanded_page}
use Rattle.wt_expand.proofs.Given.{stretches_join}

-- ---- what work costs

abbrev cost : List Entry → ℕ
cost [] = 0
cost (e ∷ es) = cost_of e + cost es

cost_append : (es fs : List Entry) → cost (es ++ fs) ≡ cost es + cost fs
cost_append [] fs = omega arith
cost_append (e ∷ es) fs = omega (arith, cost_append es fs)

both_none : {A : Type 0} (a b : Option A) → option_or a b ≡ None → (a ≡ None) × (b ≡ None)
both_none None b e = (refl, e)
both_none (Some x) b e = absurd cc

large_none : (n : ℕ) → if_large n ≡ None → n ≤ most_cost
large_none n e = by_test (nat_lt most_cost n) refl e
  where
    by_test : (t : Bool) → nat_lt most_cost n ≡ t → (if t then Some too_large else None) ≡ None → n ≤ most_cost
    by_test true f g = absurd cc
    by_test false f g = grind (arith, nat_tests)

entry_small : (pages : Pages) (bs : List ℕ) (spent : ℕ) (x : Entry) → spent ≤ most_cost → entry_refusal pages bs (spent + cost_of x) x ≡ None
    → spent + cost_of x ≤ most_cost
entry_small pages bs spent (entered t) l e = omega (arith, l)
entry_small pages bs spent begun l e = large_none (spent + 1) e
entry_small pages bs spent (fetched t) l e = omega (arith, l)
entry_small pages bs spent (ended n) l e = large_none (spent + n) e

small_from : (pages : Pages) (bs : List ℕ) (spent : ℕ) (es : List Entry) → spent ≤ most_cost → refusal_from pages bs spent es ≡ None
    → spent + cost es ≤ most_cost
small_from pages bs spent [] l e = omega (arith, l)
small_from pages bs spent (x ∷ es) l e =
    let q = both_none (entry_refusal pages bs (spent + cost_of x) x) (refusal_from pages bs (spent + cost_of x) es) e in
    let s = entry_small pages bs spent x l q.0 in
    omega (arith, small_from pages bs (spent + cost_of x) es s q.1)

work_small : (pages : Pages) (bs : List ℕ) (es : List Entry) → first_refusal pages bs es ≡ None → cost es ≤ most_cost
unfolding first_refusal
work_small pages bs es e = let s = small_from pages bs 0 es (omega arith) e in omega (arith, s)

-- ---- what calls give

abbrev given_bytes : List Stretch → ℕ
given_bytes [] = 0
given_bytes (own xs ∷ ss) = given_bytes ss
given_bytes (outer c xs ∷ ss) = length (sources xs) + given_bytes ss
given_bytes (text_call s ∷ ss) = given_bytes ss

bytes_append : (ss ts : List Stretch) → given_bytes (ss ++ ts) ≡ given_bytes ss + given_bytes ts
bytes_append [] ts = omega arith
bytes_append (own xs ∷ ss) ts = bytes_append ss ts
bytes_append (outer c xs ∷ ss) ts = omega (arith, bytes_append ss ts)
bytes_append (text_call s ∷ ss) ts = bytes_append ss ts

called_sources : (k : ℕ) (xs : List Item) → sources (map (from_call k) xs) ≡ sources xs
called_sources k [] = refl
called_sources k (char o b ∷ xs) = ap (λ bs. b ∷ bs) (called_sources k xs)
called_sources k (whole f o bs ∷ xs) = ap (λ cs. bs ++ cs) (called_sources k xs)

outer_short : (k : ℕ) (c : OuterCall) (xs : List Item) → length (sources (outer_items k c xs)) ≤ length c.source + length (sources xs)
outer_short k c [] = omega (arith, length-append c.source [])
outer_short k c (x ∷ xs) = omega (arith, ap length (called_sources k (x ∷ xs)))

sources_len : (xs ys : List Item) → length (sources (xs ++ ys)) ≡ length (sources xs) + length (sources ys)
sources_len xs ys = ap length (flat_map-append source xs ys) ∙ length-append (sources xs) (sources ys)

numbered_short : (k : ℕ) (ss : List Stretch) → length (sources (numbered k ss)) ≤ length (page_bytes ss) + given_bytes ss
numbered_short k [] = omega arith
numbered_short k (own xs ∷ ss) =
    omega (arith, sources_len xs (numbered k ss), length-append (sources xs) (page_bytes ss), numbered_short k ss)
numbered_short k (outer c xs ∷ ss) =
    omega (
      arith,
      sources_len (outer_items k c xs) (numbered (suc k) ss),
      length-append c.source (page_bytes ss),
      outer_short k c xs,
      numbered_short (suc k) ss,
    )
numbered_short k (text_call s ∷ ss) = numbered_short k ss

-- what is given has been paid for
paid : (before inside : List Entry) (n : ℕ) → n ≤ cost (before ++ (begun ∷ (inside ++ ended n ∷ [])))
paid before inside n =
    omega (arith, cost_append before (begun ∷ (inside ++ ended n ∷ [])), cost_append inside (ended n ∷ []))

call_paid : (c : Called) (r : Reading) (start : Bool) (at k : ℕ) (bs : List ℕ) (ms : Members) (ps : List PartOutput) (os : List Output)
    (inside : List Stretch) → given_bytes inside ≤ cost (joined os).work
    → given_bytes (call_stretches c at k bs ms (called_output c r start k bs ps os).items inside) ≤ cost (called_output c r start k bs ps os).work
call_paid argument r start at k bs ms ps os inside h =
    let name = target_part ps in
    let o = if_value (value_of (name_text name.items) r.frame) (default_output name (later_parts ps)) in
    let p = paid [] (name.work ++ o.work) (length (sources o.items)) in
    omega (arith, p)
call_paid (choice f n) r start at k bs ms ps os inside h =
    let o = function_output f n start ps in
    let p : length (sources o.items) ≤ cost o.work = paid [] _ _ in
    omega (arith, p)
call_paid function r start at k bs ms ps os inside h = omega arith
call_paid (page t) r start at k bs ms ps os inside h =
    let later = later_parts ps in
    let o = r.template t (values_from 1 later) in
    let p = paid (target_part ps).work (parts_work later ++ o.work) (length (sources (with_break start o.items))) in
    omega (arith, p)
call_paid text r start at k bs ms ps os inside h =
    omega (arith, h, bytes_append inside (own (chars (back_braces k bs)) ∷ []), cost_append (joined os).work [])

mutual
  one_paid : (r : Reading) (at : ℕ) (start : Bool) (bs : List ℕ) (m : Member)
      → given_bytes (stretches_of r at start bs m) ≤ cost (output_of r start bs m).work
  one_paid r at start bs (lexeme (kind, n)) = omega arith
  one_paid r at start bs (call k ms) =
      let os = outputs_of r false (drop k bs) ms in
      let source = take (k + width_of_all ms + k) bs in
      let ps = part_outputs (part_members 0 ms) os in
      call_paid (called k source (target_part ps).items) r start at k source ms ps os (all_stretches r (at + k) false (drop k bs) ms)
      (all_paid r (at + k) false (drop k bs) ms)

  all_paid : (r : Reading) (at : ℕ) (start : Bool) (bs : List ℕ) (ms : Members)
      → given_bytes (all_stretches r at start bs ms) ≤ cost (joined (outputs_of r start bs ms)).work
  all_paid r at start bs none = omega arith
  all_paid r at start bs (more m ms) =
      let next = is_break (slice_index bs (width m - 1)) in
      let rest = outputs_of r next (drop (width m) bs) ms in
      let here = stretches_of r at start bs m in
      let later = all_stretches r (at + width m) next (drop (width m) bs) ms in
      omega (
        arith,
        bytes_append here later,
        cost_append (output_of r start bs m).work (joined rest).work,
        one_paid r at start bs m,
        all_paid r (at + width m) next (drop (width m) bs) ms,
      )

-- ---- the page

stretches_are : (pages : Pages) (bs : List ℕ) → page_stretches pages bs ≡ all_stretches (page_reading pages) 0 true bs (text_members mode.Page bs)
unfolding page_stretches
stretches_are pages bs = refl

page_paid : (pages : Pages) (bs : List ℕ) → given_bytes (page_stretches pages bs) ≤ cost (page_work pages bs)
unfolding page_work
page_paid pages bs =
    let p = all_paid (page_reading pages) 0 true bs (text_members mode.Page bs) in
    let e = ap given_bytes (stretches_are pages bs) in
    omega (arith, p, e)

most_is : most_cost ≡ 8388608
unfolding most_cost
most_is = refl

pub expanded_short : (pages : Pages) (page : List ℕ) → first_refusal pages page (page_work pages page) ≡ None
    → length (sources (expanded_page pages page).items) ≤ length page + 8388608
unfolding expanded_page
expanded_short pages bs e =
    let ss = page_stretches pages bs in
    let short : length (sources (numbered 0 ss)) ≤ length (page_bytes ss) + given_bytes ss = numbered_short 0 ss in
    let bytes = ap length (stretches_join pages bs) in
    let small = work_small pages bs (page_work pages bs) e in
    let paid_for = page_paid pages bs in
    let most = most_is in
    omega (arith, short, bytes, small, paid_for, most)
