-- The stretches of members that stand one behind the other, and stretches that make the same page.
use Rattle.std.proofs.Common.{◌≡◌, ℕ, suc, ◌+◌, ◌-◌, ◌≤◌, Bool, false, Option, Some, None, List, [], ◌∷◌, ◌++◌, length, map, take, drop, refl, sym, ap, ◌∙◌, subst, arith, append_assoc, append-nil}
use Rattle.std.specs.Prelude.{slice_index}
use Rattle.std.specs.Option.{option_and_then}
use Rattle.std.proofs.lemmas.List.{drop-drop, get_or-drop}
use Rattle.std.proofs.lemmas.List.Concat.{flat_map-append}
use Rattle.wt_span.specs.declared.form.LexKind.{LexKind}
use Rattle.wt_span.specs.Bytes.{is_break}
use Rattle.wt_span.specs.declared.form.Piece.{Piece}
use Rattle.wt_span.specs.Items.{Item, char, whole, items, items_of}
use Rattle.wt_span.specs.Origins.{OuterCall}
use Rattle.wt_span.specs.Braces.{Member, Members, lexeme, call, none, more, members, width, width_of_all}
use Rattle.wt_braces.specs.PartMembers.{part_members, width_of}
use Rattle.wt_expand.specs.Texts.{target_of, both, target_text}
use Rattle.wt_expand.specs.Targets.{Called, argument, choice, function, page, text, called, title_in_target, title_of_target}
use Rattle.wt_expand.specs.Expansion.{Output, joined, chars, lexeme_items, PartOutput, part_outputs, target_part, Reading, front_braces, back_braces, called_output, output_of, outputs_of}
use Rattle.wt_expand.specs.PageCalls.{Stretch, own, outer, text_call, call_stretches, stretches_of, all_stretches, from_call, outer_items, numbered, outer_calls, text_spans}
use Rattle.wt_expand.specs.Stretches.{given_items}
use Rattle.wt_transclusion.specs.Cursors.{starts}
use Rattle.wt_transclusion.specs.Parts.{start_after}
use Rattle.wt_transclusion.specs.Steps.{Leads, one_lexeme, one_brace, one_more}
use Rattle.wt_transclusion.specs.Stretch.{IsFull, AllFull}
use Rattle.wt_transclusion.proofs.Chunks.{two_items}
use Rattle.wt_expansion.specs.Made.{AreAlike, GiveKept, kept}
use Rattle.wt_expansion.proofs.SoundCalls.{calls_append}
use Rattle.wt_expansion.proofs.TextOrder.{spans_append}

-- ---- stretches that make the same page

pub alike_same : (ss ts : List Stretch) → ss ≡ ts → AreAlike ss ts
alike_same ss ts e = record { items = λ k. ap (numbered k) e; calls = ap outer_calls e; text_calls = ap text_spans e }

pub alike_then : (ss ts us : List Stretch) → AreAlike ss ts → AreAlike ts us → AreAlike ss us
alike_then ss ts us f g = record { items = λ k. f.items k ∙ g.items k; calls = f.calls ∙ g.calls; text_calls = f.text_calls ∙ g.text_calls }

numbered_append : (k : ℕ) (ss ts : List Stretch) → numbered k (ss ++ ts) ≡ numbered k ss ++ numbered (k + length (outer_calls ss)) ts
numbered_append k [] ts = let z : k ≡ k + 0 = omega arith in ap (λ n. numbered n ts) z
numbered_append k (own xs ∷ ss) ts = ap (λ ys. xs ++ ys) (numbered_append k ss ts) ∙ sym (append_assoc xs (numbered k ss) _)
numbered_append k (outer c xs ∷ ss) ts =
    let z : suc k + length (outer_calls ss) ≡ k + suc (length (outer_calls ss)) = omega arith in
    ap (λ ys. outer_items k c xs ++ ys) (numbered_append (suc k) ss ts ∙ ap (λ n. numbered (suc k) ss ++ numbered n ts) z)
    ∙ sym (append_assoc (outer_items k c xs) (numbered (suc k) ss) _)
numbered_append k (text_call s ∷ ss) ts = numbered_append k ss ts

pub alike_append : (ss ts us vs : List Stretch) → AreAlike ss ts → AreAlike us vs → AreAlike (ss ++ us) (ts ++ vs)
alike_append ss ts us vs f g = record {
  items = λ k. numbered_append k ss us ∙ ap (λ xs. xs ++ numbered (k + length (outer_calls ss)) us) (f.items k)
      ∙ ap (λ xs. numbered k ts ++ xs) (ap (λ cs. numbered (k + length cs) us) f.calls ∙ g.items (k + length (outer_calls ts)))
      ∙ sym (numbered_append k ts vs);
  calls = calls_append ss us ∙ ap (λ cs. cs ++ outer_calls us) f.calls ∙ ap (λ cs. outer_calls ts ++ cs) g.calls ∙ sym (calls_append ts vs);
  text_calls = spans_append ss us ∙ ap (λ cs. cs ++ text_spans us) f.text_calls ∙ ap (λ cs. text_spans ts ++ cs) g.text_calls ∙ sym (spans_append ts vs);
}

-- ---- one behind the other

abbrev pub strs : Reading → Bool → List ℕ → ℕ → List Member → List Stretch
strs r s t p xs = all_stretches r p s (drop p t) (members xs)

pub strs_cons : (r : Reading) (s : Bool) (t : List ℕ) (p : ℕ) (x : Member) (ys : List Member) → 1 ≤ width x
    → strs r s t p (x ∷ ys) ≡ stretches_of r p s (drop p t) x ++ strs r (starts t (p + width x)) t (p + width x) ys
strs_cons r s t p x ys l =
    let n : ℕ = width x in
    let z : p + (n - 1) ≡ (p + n) - 1 = omega (arith, l) in
    let b : slice_index (drop p t) (n - 1) ≡ slice_index t ((p + n) - 1) = get_or-drop p t (n - 1) 0 ∙ ap (λ k. slice_index t k) z in
    ap (λ y. stretches_of r p s (drop p t) x ++ all_stretches r (p + n) (is_break y) (drop n (drop p t)) (members ys)) b
    ∙ ap (λ bs. stretches_of r p s (drop p t) x ++ all_stretches r (p + n) (starts t (p + n)) bs (members ys)) (drop-drop n p t)

wide : (m : Member) → IsFull m → 1 ≤ width m
wide (lexeme (kind, n)) f = f
wide (call k ms) f = omega (arith, f.0)

after_next : (t : List ℕ) (at : ℕ) (x : Member) (xs : List Member)
    → start_after (starts t (at + width x)) t (at + width x) xs ≡ starts t (at + (width x + width_of xs))
after_next t at x [] = ap (starts t) (omega arith)
after_next t at x (y ∷ ys) = ap (starts t) (omega arith)

pub strs_append : (r : Reading) (s : Bool) (t : List ℕ) (p : ℕ) (xs ys : List Member) → AllFull xs
    → strs r s t p (xs ++ ys) ≡ strs r s t p xs ++ strs r (start_after s t p xs) t (p + width_of xs) ys
strs_append r s t p [] ys f = let z : p ≡ p + 0 = omega arith in ap (λ k. strs r s t k ys) z
strs_append r s t p (x ∷ xs) ys f =
    let n : ℕ = width x in
    let one = wide x f.0 in
    let z : p + n + width_of xs ≡ p + (n + width_of xs) = omega arith in
    strs_cons r s t p x (xs ++ ys) one
    ∙ ap (λ ss. stretches_of r p s (drop p t) x ++ ss) (strs_append r (starts t (p + n)) t (p + n) xs ys f.1
    ∙ ap (λ b. strs r (starts t (p + n)) t (p + n) xs ++ strs r b t (p + n + width_of xs) ys) (after_next t p x xs)
    ∙ ap (λ k. strs r (starts t (p + n)) t (p + n) xs ++ strs r (starts t (p + (n + width_of xs))) t k ys) z)
    ∙ sym (append_assoc (stretches_of r p s (drop p t) x) (strs r (starts t (p + n)) t (p + n) xs) _)
    ∙ ap (λ ss. ss ++ strs r (starts t (p + (n + width_of xs))) t (p + (n + width_of xs)) ys) (sym (strs_cons r s t p x xs one))

-- ---- bytes of a lexeme

lexeme_cons : (r : Reading) (s : Bool) (t : List ℕ) (p n : ℕ) (kind : LexKind) (ys : List Member) → 1 ≤ n
    → strs r s t p (lexeme (kind, n) ∷ ys) ≡ own (lexeme_items r.mode kind (take n (drop p t))) ∷ strs r (starts t (p + n)) t (p + n) ys
lexeme_cons r s t p n kind ys l = strs_cons r s t p (lexeme (kind, n)) ys l

own_two : (xs ys zs : List Item) (ss : List Stretch) → xs ++ ys ≡ zs → AreAlike (own zs ∷ ss) (own xs ∷ (own ys ∷ ss))
own_two xs ys zs ss e = record {
  items = λ k. ap (λ us. us ++ numbered k ss) (sym e) ∙ append_assoc xs ys (numbered k ss);
  calls = refl;
  text_calls = refl;
}

own_more : (xs : List Item) (ss ts : List Stretch) → AreAlike ss ts → AreAlike (own xs ∷ ss) (own xs ∷ ts)
own_more xs ss ts f = record { items = λ k. ap (λ ys. xs ++ ys) (f.items k); calls = f.calls; text_calls = f.text_calls }

full_left : (kind : LexKind) (n : ℕ) (xs ys : List Member) → Leads kind n xs ys → AllFull xs → AllFull ys
full_left _ _ _ _ (one_lexeme kind n ys) f = f.1
full_left _ _ _ _ (one_brace kind k zs h) f = (omega arith, f.1)
full_left _ _ _ _ (one_more kind other n k xs us ys here there a b) f = full_left other k us ys b (full_left kind n xs us a f)

pub leads_alike : (kind : LexKind) (n : ℕ) (xs ys : List Member) → Leads kind n xs ys → (r : Reading) (s : Bool) (t : List ℕ) (p : ℕ) → AllFull xs
    → AreAlike (own (lexeme_items r.mode kind (take n (drop p t))) ∷ strs r (starts t (p + n)) t (p + n) ys) (strs r s t p xs)
leads_alike _ _ _ _ (one_lexeme kind n ys) r s t p f = alike_same _ _ (sym (lexeme_cons r s t p n kind ys f.0))
leads_alike _ _ _ _ (one_brace kind k zs h) r s t p f =
    let one = lexeme_items r.mode kind (take 1 (drop p t)) in
    let more = lexeme_items r.mode kind (take (suc k) (drop (p + 1) t)) in
    let all = lexeme_items r.mode kind (take (suc (suc k)) (drop p t)) in
    let z : p + 1 + suc k ≡ p + suc (suc k) = omega arith in
    let rest = strs r (starts t (p + suc (suc k))) t (p + suc (suc k)) zs in
    let next : strs r (starts t (p + 1)) t (p + 1) (lexeme (kind, suc k) ∷ zs) ≡ own more ∷ rest =
    lexeme_cons r (starts t (p + 1)) t (p + 1) (suc k) kind zs (omega arith) ∙ ap (λ q. own more ∷ strs r (starts t q) t q zs) z in
    let here : strs r s t p (lexeme (kind, suc (suc k)) ∷ zs) ≡ own all ∷ rest = lexeme_cons r s t p (suc (suc k)) kind zs f.0 in
    let both : 1 + suc k ≡ suc (suc k) = omega arith in
    let two = sym (two_items kind kind r.mode t p 1 (suc k) h h) ∙ ap (λ i. lexeme_items r.mode kind (take i (drop p t))) both in
    let back = own_two one more all rest two in
    alike_then _ _ _ (alike_same _ _ (ap (λ ss. own one ∷ ss) next))
    (alike_then _ _ _ (record { items = λ i. sym (back.items i); calls = refl; text_calls = refl }) (alike_same _ _ (sym here)))
leads_alike _ _ _ _ (one_more kind other n k xs us ys here there a b) r s t p f =
    let one = lexeme_items r.mode kind (take n (drop p t)) in
    let more = lexeme_items r.mode other (take k (drop (p + n) t)) in
    let all = lexeme_items r.mode kind (take (n + k) (drop p t)) in
    let z : p + n + k ≡ p + (n + k) = omega arith in
    let first = leads_alike kind n xs us a r s t p f in
    let second = leads_alike other k us ys b r (starts t (p + n)) t (p + n) (full_left kind n xs us a f) in
    let moved = subst (λ q. AreAlike (own more ∷ strs r (starts t q) t q ys) (strs r (starts t (p + n)) t (p + n) us)) z second in
    alike_then _ _ _ (own_two one more all (strs r (starts t (p + (n + k))) t (p + (n + k)) ys) (sym (two_items kind other r.mode t p n k here there)))
    (alike_then _ _ _ (own_more one _ _ moved) first)

-- ---- what stretches give

given_append : (ss ts : List Stretch) → given_items (ss ++ ts) ≡ given_items ss ++ given_items ts
given_append [] ts = refl
given_append (own xs ∷ ss) ts = ap (λ ys. xs ++ ys) (given_append ss ts) ∙ sym (append_assoc xs (given_items ss) (given_items ts))
given_append (outer c xs ∷ ss) ts = ap (λ ys. xs ++ ys) (given_append ss ts) ∙ sym (append_assoc xs (given_items ss) (given_items ts))
given_append (text_call s ∷ ss) ts = given_append ss ts

given_call : (c : Called) (r : Reading) (start : Bool) (at k : ℕ) (source : List ℕ) (ms : Members) (ps : List PartOutput)
    (os : List Output) (inside : List Stretch) → given_items inside ≡ (joined os).items
    → given_items (call_stretches c at k source ms (called_output c r start k source ps os).items inside) ≡ (called_output c r start k source ps os).items
given_call argument r start at k source ms ps os inside e = append-nil _
given_call (choice c n) r start at k source ms ps os inside e = append-nil _
given_call function r start at k source ms ps os inside e = append-nil _
given_call (page t) r start at k source ms ps os inside e = append-nil _
given_call text r start at k source ms ps os inside e =
    ap (λ ys. chars (front_braces k source) ++ ys)
    (given_append inside (own (chars (back_braces k source)) ∷ []) ∙ ap (λ ys. ys ++ (chars (back_braces k source) ++ [])) e
    ∙ ap (λ ys. (joined os).items ++ ys) (append-nil (chars (back_braces k source))))

mutual
  given_one : (r : Reading) (at : ℕ) (start : Bool) (bs : List ℕ) (m : Member) → given_items (stretches_of r at start bs m) ≡ (output_of r start bs m).items
  given_one r at start bs (lexeme w) = append-nil _
  given_one r at start bs (call k ms) =
      let os = outputs_of r false (drop k bs) ms in
      let ps = part_outputs (part_members 0 ms) os in
      let source = take (k + width_of_all ms + k) bs in
      given_call (called k source (target_part ps).items) r start at k source ms ps os
      (all_stretches r (at + k) false (drop k bs) ms) (given_all r (at + k) false (drop k bs) ms)

  pub given_all : (r : Reading) (at : ℕ) (start : Bool) (bs : List ℕ) (ms : Members) → given_items (all_stretches r at start bs ms)
      ≡ (joined (outputs_of r start bs ms)).items
  given_all r at start bs none = refl
  given_all r at start bs (more m ms) =
      let next = is_break (slice_index bs (width m - 1)) in
      given_append (stretches_of r at start bs m) (all_stretches r (at + width m) next (drop (width m) bs) ms)
      ∙ ap (λ xs. xs ++ given_items (all_stretches r (at + width m) next (drop (width m) bs) ms)) (given_one r at start bs m)
      ∙ ap (λ xs. (output_of r start bs m).items ++ xs) (given_all r (at + width m) next (drop (width m) bs) ms)

-- ---- what a target says hangs on no origin

target_from : (k : ℕ) (x : Item) → target_of (from_call k x) ≡ target_of x
target_from k (char o b) = refl
target_from k (whole f o bs) = refl

target_called : (k : ℕ) (xs ys : List Item) → target_text (map (from_call k) xs ++ ys) ≡ target_text (xs ++ ys)
target_called k [] ys = refl
target_called k (x ∷ xs) ys = ap (λ o. both o (target_text (map (from_call k) xs ++ ys))) (target_from k x) ∙ ap (both (target_of x)) (target_called k xs ys)

none_before : (o : Option (List ℕ)) → both (Some []) o ≡ o
none_before None = refl
none_before (Some bs) = refl

target_outer : (k : ℕ) (c : OuterCall) (xs ys : List Item) → target_text (outer_items k c xs ++ ys) ≡ target_text (xs ++ ys)
target_outer k c [] ys = none_before (target_text ys)
target_outer k c (x ∷ xs) ys = target_called k (x ∷ xs) ys

target_same : (xs ys zs : List Item) → target_text ys ≡ target_text zs → target_text (xs ++ ys) ≡ target_text (xs ++ zs)
target_same [] ys zs e = e
target_same (x ∷ xs) ys zs e = ap (both (target_of x)) (target_same xs ys zs e)

target_numbered : (k : ℕ) (ss : List Stretch) → target_text (numbered k ss) ≡ target_text (given_items ss)
target_numbered k [] = refl
target_numbered k (own xs ∷ ss) = target_same xs (numbered k ss) (given_items ss) (target_numbered k ss)
target_numbered k (outer c xs ∷ ss) =
    target_outer k c xs (numbered (suc k) ss) ∙ target_same xs (numbered (suc k) ss) (given_items ss) (target_numbered (suc k) ss)
target_numbered k (text_call s ∷ ss) = target_numbered k ss

target_given : (at k : ℕ) (ss : List Stretch) (ps : List Piece) (to : ℕ) → GiveKept at k ss ps to → target_text (items ps) ≡ target_text (given_items ss)
target_given at k [] ps to g = ap (λ qs. target_text (items qs)) g.0
target_given at k (own xs ∷ ss) ps to (qs, rs, mid, is, xs_are, o, g) =
    ap target_text (ap items is ∙ flat_map-append items_of qs rs ∙ ap (λ ys. ys ++ items rs) xs_are)
    ∙ target_same xs (items rs) (given_items ss) (target_given mid k ss rs to g)
target_given at k (outer c xs ∷ ss) ps to (qs, rs, is, xs_are, o, s, g) =
    ap target_text (ap items is ∙ flat_map-append items_of qs rs ∙ ap (λ ys. ys ++ items rs) xs_are) ∙ target_outer (kept k) c xs (items rs)
    ∙ target_same xs (items rs) (given_items ss) (target_given (at + length c.source) (suc k) ss rs to g)
target_given at k (text_call s ∷ ss) ps to g = target_given at k ss ps to g

-- what pieces say that give stretches
pub title_given : (at k : ℕ) (ss : List Stretch) (ps : List Piece) (to : ℕ) → GiveKept at k ss ps to
    → title_of_target (items ps) ≡ title_of_target (numbered k ss)
unfolding title_of_target
title_given at k ss ps to g = ap (option_and_then title_in_target) (target_given at k ss ps to g ∙ sym (target_numbered k ss))

pub title_numbered : (k : ℕ) (ss : List Stretch) → title_of_target (numbered k ss) ≡ title_of_target (given_items ss)
unfolding title_of_target
title_numbered k ss = ap (option_and_then title_in_target) (target_numbered k ss)
