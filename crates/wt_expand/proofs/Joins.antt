-- The origins of an expanded page, each once, join to the page.
use Rattle.std.proofs.Common.{◌≡◌, ℕ, zero, suc, ◌+◌, ◌-◌, ◌<◌, Bool, true, false, Option, Some, None, List, [], ◌∷◌, ◌++◌, length, map, take, drop, refl, sym, ap, ◌∙◌, subst, arith, append_assoc, append-nil, length-append}
use Rattle.std.specs.Prelude.{slice_get, slice_index, not, if◌then◌else◌}
use Rattle.std.proofs.lemmas.Bool.Decides.{nat_tests}
use Rattle.wt_span.specs.declared.form.Mode.{Mode}
use Rattle.wt_span.specs.declared.form.Mode.TheVariants as mode
use Rattle.wt_span.specs.declared.form.LexKind.{LexKind}
use Rattle.wt_span.specs.Bytes.{is_break}
use Rattle.wt_span.specs.Items.{Item, char, whole, source, sources, call_of, items_by}
use Rattle.wt_span.specs.Origins.{OuterCall, same_call}
use Rattle.wt_span.specs.Cuts.{source_of_call, text_by, text_at, text_between, page_of}
use Rattle.wt_span.specs.Braces.{Member, Members, lexeme, call, none, more, width, width_of_all}
use Rattle.wt_braces.specs.PartMembers.{part_members}
use Rattle.wt_expand.specs.PageItems.{form_of}
use Rattle.wt_expand.specs.Targets.{Called, argument, choice, function, page, text, called}
use Rattle.wt_expand.specs.Work.{Pages}
use Rattle.wt_expand.specs.Expansion.{Output, chars, is_removed, lexeme_items, PartOutput, part_outputs, target_part, Reading, front_braces, back_braces, called_output, outputs_of, text_members, page_reading}
use Rattle.wt_expand.specs.PageCalls.{Stretch, own, outer, text_call, call_stretches, stretches_of, all_stretches, from_call, outer_items, numbered, outer_calls, page_stretches, expanded_page}
use Rattle.wt_expand.specs.Stretches.{page_bytes}
use Rattle.wt_expand.proofs.PiecePlaces.{last_call, last_push, text_behind, text_here, behind_page, behind_same, AllFrom, form_from, chars_from, last_of, length_push, get_mid}
use Rattle.wt_expand.proofs.Given.{stretches_join}

-- ---- the page's own items come from no call

abbrev OwnPage : List Stretch → Type 0
OwnPage [] = Unit {0}
OwnPage (own xs ∷ ss) = AllFrom None xs × OwnPage ss
OwnPage (outer c xs ∷ ss) = OwnPage ss
OwnPage (text_call s ∷ ss) = OwnPage ss

own_append : (ss ts : List Stretch) → OwnPage ss → OwnPage ts → OwnPage (ss ++ ts)
own_append [] ts f g = g
own_append (own xs ∷ ss) ts f g = (f.0, own_append ss ts f.1 g)
own_append (outer c xs ∷ ss) ts f g = own_append ss ts f g
own_append (text_call s ∷ ss) ts f g = own_append ss ts f g

lexeme_own : (m : Mode) (kind : LexKind) (bs : List ℕ) → AllFrom None (lexeme_items m kind bs)
lexeme_own m kind bs = by (is_removed m kind)
  where
    by : (t : Bool) → AllFrom None (if t then [] else items_by (form_of kind bs) None bs)
    by true = tt
    by false = form_from (form_of kind bs) None bs

own_call : (c : Called) (r : Reading) (start : Bool) (at k : ℕ) (source : List ℕ) (ms : Members) (ps : List PartOutput)
    (os : List Output) (inside : List Stretch) → OwnPage inside
    → OwnPage (call_stretches c at k source ms (called_output c r start k source ps os).items inside)
own_call argument r start at k source ms ps os inside h = tt
own_call (choice f n) r start at k source ms ps os inside h = tt
own_call function r start at k source ms ps os inside h = ((refl, tt), tt)
own_call (page t) r start at k source ms ps os inside h = tt
own_call text r start at k source ms ps os inside h = (
  chars_from None (front_braces k source),
  own_append inside (own (chars (back_braces k source)) ∷ []) h
      (chars_from None (back_braces k source), tt),
)

mutual
  own_one : (r : Reading) (at : ℕ) (start : Bool) (bs : List ℕ) (m : Member) → OwnPage (stretches_of r at start bs m)
  own_one r at start bs (lexeme (kind, n)) = (lexeme_own r.mode kind (take n bs), tt)
  own_one r at start bs (call k ms) =
      let os = outputs_of r false (drop k bs) ms in
      let ps = part_outputs (part_members 0 ms) os in
      let source = take (k + width_of_all ms + k) bs in
      own_call (called k source (target_part ps).items) r start at k source ms ps os
      (all_stretches r (at + k) false (drop k bs) ms) (own_all r (at + k) false (drop k bs) ms)

  own_all : (r : Reading) (at : ℕ) (start : Bool) (bs : List ℕ) (ms : Members) → OwnPage (all_stretches r at start bs ms)
  own_all r at start bs none = tt
  own_all r at start bs (more m ms) =
      let next = is_break (slice_index bs (width m - 1)) in
      own_append (stretches_of r at start bs m) (all_stretches r (at + width m) next (drop (width m) bs) ms)
      (own_one r at start bs m) (own_all r (at + width m) next (drop (width m) bs) ms)

-- ---- what stands on the page for items that follow others

pub between_append : (calls : List OuterCall) (all : List Item) (j k n : ℕ) → text_between calls all n (j + k)
    ≡ text_between calls all n j ++ text_between calls all (n + j) k
between_append calls all zero k n =
    let e : 0 + k ≡ k = omega arith in
    let f : n ≡ n + 0 = omega arith in
    ap (text_between calls all n) e ∙ ap (λ m. text_between calls all m k) f
between_append calls all (suc j) k n =
    let e : suc j + k ≡ suc (j + k) = omega arith in
    let f : suc n + j ≡ n + suc j = omega arith in
    ap (text_between calls all n) e
    ∙ ap (λ bs. text_at calls all n ++ bs) (between_append calls all j k (suc n))
    ∙ sym (append_assoc (text_at calls all n) (text_between calls all (suc n) j) (text_between calls all (suc n + j) k))
    ∙ ap (λ m. (text_at calls all n ++ text_between calls all (suc n) j) ++ text_between calls all m k) f

-- one item, and what follows it
between_more : (calls : List OuterCall) (front : List Item) (z : Item) (zs back : List Item)
    → text_between calls (front ++ (z ∷ zs ++ back)) (length front) (length (z ∷ zs)) ≡ text_behind calls (last_call front) z
    ++ text_between calls ((front ++ z ∷ []) ++ (zs ++ back)) (length (front ++ z ∷ [])) (length zs)
between_more calls front z zs back =
    let all = front ++ (z ∷ zs ++ back) in
    let m : all ≡ (front ++ z ∷ []) ++ (zs ++ back) = sym (append_assoc front (z ∷ []) (zs ++ back)) in
    ap (λ bs. bs ++ text_between calls all (suc (length front)) (length zs)) (text_here calls front z (zs ++ back))
    ∙ ap (λ i. text_behind calls (last_call front) z ++ text_between calls all i (length zs)) (sym (length_push front z))
    ∙ ap (λ xs. text_behind calls (last_call front) z ++ text_between calls xs (length (front ++ z ∷ [])) (length zs)) m

pub between_own : (calls : List OuterCall) (front zs back : List Item) → AllFrom None zs
    → text_between calls (front ++ (zs ++ back)) (length front) (length zs) ≡ sources zs
between_own calls front [] back h = refl
between_own calls front (z ∷ zs) back h =
    between_more calls front z zs back ∙ ap (λ bs. bs ++ text_between calls ((front ++ z ∷ []) ++ (zs ++ back))
    (length (front ++ z ∷ [])) (length zs)) (behind_page calls (last_call front) z h.0)
    ∙ ap (λ bs. source z ++ bs) (between_own calls (front ++ z ∷ []) zs back h.1)

between_same : (calls : List OuterCall) (k : ℕ) (front zs back : List Item) → last_call front ≡ Some k → AllFrom (Some k) zs
    → text_between calls (front ++ (zs ++ back)) (length front) (length zs) ≡ []
between_same calls k front [] back e h = refl
between_same calls k front (z ∷ zs) back e h =
    between_more calls front z zs back ∙ ap (λ bs. bs ++ text_between calls ((front ++ z ∷ []) ++ (zs ++ back))
    (length (front ++ z ∷ [])) (length zs)) (behind_same calls (last_call front) k z e h.0)
    ∙ between_same calls k (front ++ z ∷ []) zs back (last_push front z ∙ h.0) h.1

behind_new : (calls : List OuterCall) (before : Option ℕ) (k : ℕ) (x : Item) → same_call before (Some k) ≡ false
    → call_of x ≡ Some k → text_behind calls before x ≡ source_of_call (slice_get calls k)
behind_new calls before k x f e =
    ap (λ o. if not (same_call before o) then text_by calls o (source x) else []) e ∙ ap (λ t. if not t then source_of_call (slice_get calls k) else []) f

between_outer : (calls : List OuterCall) (k : ℕ) (front zs back : List Item) → same_call (last_call front) (Some k) ≡ false
    → 0 < length zs → AllFrom (Some k) zs
    → text_between calls (front ++ (zs ++ back)) (length front) (length zs) ≡ source_of_call (slice_get calls k)
between_outer calls k front [] back f some h = absurd (omega arith)
between_outer calls k front (z ∷ zs) back f some h =
    between_more calls front z zs back
    ∙ ap (λ bs. bs ++ text_between calls ((front ++ z ∷ []) ++ (zs ++ back)) (length (front ++ z ∷ [])) (length zs))
    (behind_new calls (last_call front) k z f h.0)
    ∙ ap (λ bs. source_of_call (slice_get calls k) ++ bs)
    (between_same calls k (front ++ z ∷ []) zs back (last_push front z ∙ h.0) h.1) ∙ append-nil (source_of_call (slice_get calls k))

-- ---- stretch after stretch

called_from : (k : ℕ) (xs : List Item) → AllFrom (Some k) (map (from_call k) xs)
called_from k [] = tt
called_from k (char o b ∷ xs) = (refl, called_from k xs)
called_from k (whole f o bs ∷ xs) = (refl, called_from k xs)

outer_from : (k : ℕ) (c : OuterCall) (xs : List Item) → AllFrom (Some k) (outer_items k c xs)
outer_from k c [] = (refl, tt)
outer_from k c (x ∷ xs) = called_from k (x ∷ xs)

outer_some : (k : ℕ) (c : OuterCall) (xs : List Item) → 0 < length (outer_items k c xs)
outer_some k c [] = omega arith
outer_some k c (x ∷ xs) = omega arith

-- the last item comes from the page or from one of so many calls
abbrev IsBelow : ℕ → Option ℕ → Type 0
IsBelow k None = Unit {0}
IsBelow k (Some j) = j < k

below_other : (k : ℕ) (o : Option ℕ) → IsBelow k o → same_call o (Some k) ≡ false
below_other k None h = refl
below_other k (Some j) h = grind (arith, nat_tests)

below_own : (k : ℕ) (front xs : List Item) → IsBelow k (last_call front) → AllFrom None xs → IsBelow k (last_call (front ++ xs))
below_own k front [] h f = let P : List Item → Type 0 = λ ys. IsBelow k (last_call ys) in subst P (sym (append-nil front)) h
below_own k front (x ∷ xs) h f = subst (IsBelow k) (sym (last_of None front (x ∷ xs) (omega arith) f)) tt

below_outer : (k : ℕ) (front zs : List Item) → 0 < length zs → AllFrom (Some k) zs → IsBelow (suc k) (last_call (front ++ zs))
below_outer k front zs some f = subst (IsBelow (suc k)) (sym (last_of (Some k) front zs some f)) (omega arith)

-- items, and what follows them
two_parts : (calls : List OuterCall) (front xs ys : List Item)
    → text_between calls (front ++ (xs ++ ys)) (length front) (length (xs ++ ys))
    ≡ text_between calls (front ++ (xs ++ ys)) (length front) (length xs)
    ++ text_between calls ((front ++ xs) ++ ys) (length (front ++ xs)) (length ys)
two_parts calls front xs ys =
    let all = front ++ (xs ++ ys) in
    ap (text_between calls all (length front)) (length-append xs ys) ∙ between_append calls all (length xs) (length ys) (length front)
    ∙ ap (λ i. text_between calls all (length front) (length xs) ++ text_between calls all i (length ys)) (sym (length-append front xs))
    ∙ ap (λ zs. text_between calls all (length front) (length xs) ++ text_between calls zs (length (front ++ xs)) (length ys)) (sym (append_assoc front xs ys))

joins : (ss : List Stretch) (front : List Item) (before : List OuterCall) (k : ℕ) → k ≡ length before → IsBelow k (last_call front) → OwnPage ss
    → text_between (before ++ outer_calls ss) (front ++ numbered k ss) (length front) (length (numbered k ss)) ≡ page_bytes ss
joins [] front before k e b h = refl
joins (own xs ∷ ss) front before k e b h =
    let calls = before ++ outer_calls ss in
    two_parts calls front xs (numbered k ss)
    ∙ ap (λ bs. bs ++ text_between calls ((front ++ xs) ++ numbered k ss) (length (front ++ xs)) (length (numbered k ss)))
    (between_own calls front xs (numbered k ss) h.0)
    ∙ ap (λ bs. sources xs ++ bs) (joins ss (front ++ xs) before k e (below_own k front xs b h.0) h.1)
joins (outer c xs ∷ ss) front before k e b h =
    let calls = before ++ c ∷ outer_calls ss in
    let zs = outer_items k c xs in
    let rest = numbered (suc k) ss in
    let f = outer_from k c xs in
    let some = outer_some k c xs in
    let here : slice_get calls k ≡ Some c = ap (slice_get calls) e ∙ get_mid before c (outer_calls ss) in
    let same : calls ≡ (before ++ c ∷ []) ++ outer_calls ss = sym (append_assoc before (c ∷ []) (outer_calls ss)) in
    let next : suc k ≡ length (before ++ c ∷ []) = omega (arith, e, length-append before (c ∷ [])) in
    two_parts calls front zs rest
    ∙ ap (λ bs. bs ++ text_between calls ((front ++ zs) ++ rest) (length (front ++ zs)) (length rest))
    (between_outer calls k front zs rest (below_other k (last_call front) b) some f ∙ ap source_of_call here)
    ∙ ap (λ bs. c.source ++ bs) (ap (λ cs. text_between cs ((front ++ zs) ++ rest) (length (front ++ zs)) (length rest)) same
    ∙ joins ss (front ++ zs) (before ++ c ∷ []) (suc k) next (below_outer k front zs some f) h)
joins (text_call s ∷ ss) front before k e b h = joins ss front before k e b h

stretches_are : (pages : Pages) (bs : List ℕ) → page_stretches pages bs ≡ all_stretches (page_reading pages) 0 true bs (text_members mode.Page bs)
unfolding page_stretches
stretches_are pages bs = refl

own_page : (pages : Pages) (bs : List ℕ) → OwnPage (page_stretches pages bs)
own_page pages bs = subst OwnPage (sym (stretches_are pages bs)) (own_all (page_reading pages) 0 true bs (text_members mode.Page bs))

pub origins_join : (pages : Pages) (bs : List ℕ) → page_of (expanded_page pages bs).outer (expanded_page pages bs).items ≡ bs
unfolding expanded_page
origins_join pages bs = joins (page_stretches pages bs) [] [] 0 refl tt (own_page pages bs) ∙ stretches_join pages bs
