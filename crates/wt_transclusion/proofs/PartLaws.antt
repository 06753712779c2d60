-- The outputs of a call's members are those of its parts, by their places.
use Rattle.std.proofs.Common.{◌≡◌, ℕ, ◌+◌, ◌-◌, ◌≤◌, Bool, true, false, Option, Some, None, List, [], ◌∷◌, ◌++◌, length, take, drop, refl, sym, ap, ◌∙◌, subst, arith, append_assoc, length-append}
use Rattle.std.specs.Prelude.{slice_index, if◌then◌else◌}
use Rattle.std.proofs.lemmas.List.{drop-drop, drop_at, take_at, get_or-drop, take_all}
use Rattle.wt_span.specs.declared.form.LexKind.TheVariants as lex
use Rattle.wt_span.specs.declared.form.LexKind.TheVariants.{Equals, Pipe}
use Rattle.wt_span.specs.Bytes.{is_break}
use Rattle.wt_span.specs.Braces.{Member, Members, lexeme, call, members, listed, width, width_of_all, in_link, sign_of, parts_of}
use Rattle.wt_braces.specs.PartMembers.{PartMembers, joined, rejoined, part_members, placed, split_members, with_sign_of, later_after, width_of}
use Rattle.wt_braces.proofs.MemberParts.{part_places}
use Rattle.wt_braces.proofs.Rejoins.{parts_join}
use Rattle.wt_expand.specs.Expansion.{Output, Reading, PartOutput, member_count, part_by, part_outputs, outputs_of}
use Rattle.wt_expand.specs.Expansion as outputs
use Rattle.wt_transclusion.specs.Cursors.{starts}
use Rattle.wt_transclusion.specs.Parts.{start_after, part_given, parts_given}
use Rattle.wt_transclusion.specs.Steps.{given_from}
use Rattle.wt_transclusion.specs.Stretch.{IsFull, AreFull, AllFull}
use Rattle.wt_transclusion.proofs.StretchLaws.{width_append, full_front, full_back, full_listed, members_listed}

-- the outputs of members that begin at a place of a text, one for each
abbrev pub outs : Reading → Bool → List ℕ → ℕ → List Member → List Output
outs r s t at xs = outputs_of r s (drop at t) (members xs)

outs_len : (r : Reading) (s : Bool) (bs : List ℕ) (xs : List Member) → length (outputs_of r s bs (members xs)) ≡ length xs
outs_len r s bs [] = refl
outs_len r s bs (x ∷ xs) = let e = outs_len r (is_break (slice_index bs (width x - 1))) (drop (width x) bs) xs in omega (arith, e)

wide : (m : Member) → IsFull m → 1 ≤ width m
wide (lexeme (kind, n)) f = f
wide (call k ms) f = omega (arith, f.0)

-- the members behind the first
outs_next : (r : Reading) (t : List ℕ) (at n : ℕ) (ys : List Member) → 1 ≤ n
    → outputs_of r (is_break (slice_index (drop at t) (n - 1))) (drop n (drop at t)) (members ys) ≡ outs r (starts t (at + n)) t (at + n) ys
outs_next r t at n ys l =
    let z : at + (n - 1) ≡ (at + n) - 1 = omega (arith, l) in
    let b : slice_index (drop at t) (n - 1) ≡ slice_index t ((at + n) - 1) = get_or-drop at t (n - 1) 0 ∙ ap (λ k. slice_index t k) z in
    ap (λ x. outputs_of r (is_break x) (drop n (drop at t)) (members ys)) b ∙ ap (λ bs. outputs_of r (starts t (at + n)) bs (members ys)) (drop-drop n at t)

after_next : (t : List ℕ) (at : ℕ) (x : Member) (xs : List Member)
    → start_after (starts t (at + width x)) t (at + width x) xs ≡ starts t (at + (width x + width_of_all (members xs)))
after_next t at x [] = ap (starts t) (omega arith)
after_next t at x (y ∷ ys) = ap (starts t) (omega arith)

pub outs_append : (r : Reading) (s : Bool) (t : List ℕ) (at : ℕ) (xs ys : List Member) → AllFull xs
    → outs r s t at (xs ++ ys) ≡ outs r s t at xs ++ outs r (start_after s t at xs) t (at + width_of_all (members xs)) ys
outs_append r s t at [] ys f = let z : at ≡ at + 0 = omega arith in ap (λ k. outs r s t k ys) z
outs_append r s t at (x ∷ xs) ys f =
    let one = wide x f.0 in
    let o = outputs.output_of r s (drop at t) x in
    let z : at + width x + width_of_all (members xs) ≡ at + (width x + width_of_all (members xs)) = omega arith in
    ap (λ os. o ∷ os) (outs_next r t at (width x) (xs ++ ys) one ∙ outs_append r (starts t (at + width x)) t (at + width x) xs ys f.1)
    ∙ ap (λ os. o ∷ (os ++ outs r (start_after (starts t (at + width x)) t (at + width x) xs) t (at + width x + width_of_all (members xs)) ys))
    (sym (outs_next r t at (width x) xs one))
    ∙ ap (λ b. outs r s t at (x ∷ xs) ++ outs r b t (at + width x + width_of_all (members xs)) ys) (after_next t at x xs)
    ∙ ap (λ k. outs r s t at (x ∷ xs) ++ outs r (starts t (at + (width x + width_of_all (members xs)))) t k ys) z

-- ---- a part

count_joined : (name : Option (List Member × ℕ)) (value : List Member) (bar : ℕ)
    → member_count (record { name = name; value = value; bar = bar }) ≡ length (joined name value)
count_joined None value bar = refl
count_joined (Some (xs, n)) value bar = let e = length-append xs (lexeme (Equals, n) ∷ value) in omega (arith, e)

starts_behind : (s : Bool) (t : List ℕ) (at n : ℕ) (xs : List Member) → start_after s t at (xs ++ lexeme (Equals, n) ∷ []) ≡ starts t (at + width_of xs + n)
starts_behind s t at n [] = ap (starts t) (omega arith)
starts_behind s t at n (x ∷ xs) = let e = width_append (x ∷ xs) (lexeme (Equals, n) ∷ []) in ap (starts t) (omega (arith, e))

equals_last : (xs : List Member) (x : Member) (ys : List Member) → (xs ++ x ∷ []) ++ ys ≡ xs ++ x ∷ ys
equals_last xs x ys = append_assoc xs (x ∷ []) ys

pub part_is : (r : Reading) (s : Bool) (t : List ℕ) (at : ℕ) (name : Option (List Member × ℕ)) (value : List Member) → AllFull (joined name value)
    → part_by name (outs r s t at (joined name value)) ≡ part_given r s t at name value
part_is r s t at None value f = refl
part_is r s t at (Some (xs, n)) value f =
    let sign = lexeme (Equals, n) in
    let ys = xs ++ sign ∷ [] in
    let all = joined (Some (xs, n)) value in
    let os = outs r s t at all in
    let front = outs_append r s t at xs (sign ∷ value) (full_front xs (sign ∷ value) f) in
    let named : take (length xs) os ≡ outs r s t at xs =
    ap (take (length xs)) front ∙ take_at (outs r s t at xs) (outs r (start_after s t at xs) t (at + width_of xs) (sign ∷ value)) (length xs)
    (outs_len r s (drop at t) xs) in
    let whole : ys ++ value ≡ all = equals_last xs sign value in
    let fy : AllFull ys = full_front ys value (subst AllFull (sym whole) f) in
    let len : length ys ≡ length xs + 1 = length-append xs (sign ∷ []) in
    let w : at + width_of ys ≡ at + width_of xs + n = let e = width_append xs (sign ∷ []) in omega (arith, e) in
    let back : os ≡ outs r s t at ys ++ outs r (start_after s t at ys) t (at + width_of ys) value = ap (outs r s t at) (sym whole)
    ∙ outs_append r s t at ys value fy in
    let valued : drop (length xs + 1) os ≡ outs r (starts t (at + width_of xs + n)) t (at + width_of xs + n) value =
    ap (drop (length xs + 1)) back ∙ drop_at (outs r s t at ys) (outs r (start_after s t at ys) t (at + width_of ys) value) (length xs + 1)
    (outs_len r s (drop at t) ys ∙ len)
    ∙ ap (λ b. outs r b t (at + width_of ys) value) (starts_behind s t at n xs) ∙ ap (λ k. outs r (starts t (at + width_of xs + n)) t k value) w in
    ap (λ zs. let p : PartOutput = record { name = Some (outputs.joined zs); value = outputs.joined (drop (length xs + 1) os); all = outputs.joined os } in
    p) named
    ∙ ap (λ zs. let p : PartOutput = record { name = Some (given_from r s t at xs); value = outputs.joined zs; all = outputs.joined os } in p) valued

-- ---- all parts

bar_last : (r : Reading) (s : Bool) (t : List ℕ) (at n : ℕ) (xs ys : List Member) → AllFull (xs ++ lexeme (Pipe, n) ∷ ys)
    → drop (length xs + 1) (outs r s t at (xs ++ lexeme (Pipe, n) ∷ ys)) ≡ outs r (starts t (at + width_of xs + n)) t (at + width_of xs + n) ys
bar_last r s t at n xs ys f =
    let bar = lexeme (Pipe, n) in
    let front = xs ++ bar ∷ [] in
    let whole : front ++ ys ≡ xs ++ bar ∷ ys = equals_last xs bar ys in
    let g : AllFull front = full_front front ys (subst AllFull (sym whole) f) in
    let len : length front ≡ length xs + 1 = length-append xs (bar ∷ []) in
    let w : at + width_of front ≡ at + width_of xs + n = let e = width_append xs (bar ∷ []) in omega (arith, e) in
    ap (λ zs. drop (length xs + 1) (outs r s t at zs)) (sym whole) ∙ ap (drop (length xs + 1)) (outs_append r s t at front ys g)
    ∙ drop_at (outs r s t at front) (outs r (start_after s t at front) t (at + width_of front) ys) (length xs + 1) (outs_len r s (drop at t) front ∙ len)
    ∙ ap (λ b. outs r b t (at + width_of front) ys) (bar_starts s t at n xs) ∙ ap (λ k. outs r (starts t (at + width_of xs + n)) t k ys) w
  where
    bar_starts : (s : Bool) (t : List ℕ) (at n : ℕ) (xs : List Member) → start_after s t at (xs ++ lexeme (Pipe, n) ∷ []) ≡ starts t (at + width_of xs + n)
    bar_starts s t at n [] = ap (starts t) (omega arith)
    bar_starts s t at n (x ∷ xs) = let e = width_append (x ∷ xs) (lexeme (Pipe, n) ∷ []) in ap (starts t) (omega (arith, e))

front_taken : (r : Reading) (s : Bool) (t : List ℕ) (at : ℕ) (xs ys : List Member) → AllFull (xs ++ ys)
    → take (length xs) (outs r s t at (xs ++ ys)) ≡ outs r s t at xs
front_taken r s t at xs ys f =
    ap (take (length xs)) (outs_append r s t at xs ys (full_front xs ys f))
    ∙ take_at (outs r s t at xs) (outs r (start_after s t at xs) t (at + width_of xs) ys) (length xs) (outs_len r s (drop at t) xs)

pub parts_are : (r : Reading) (s : Bool) (t : List ℕ) (at : ℕ) (ps : List PartMembers) → AllFull (rejoined ps)
    → part_outputs ps (outs r s t at (rejoined ps)) ≡ parts_given r s t at ps
parts_are r s t at [] f = refl
parts_are r s t at (p ∷ []) f =
    let xs = joined p.name p.value in
    let n = count_joined p.name p.value p.bar in
    let len = outs_len r s (drop at t) xs in
    ap (λ os. part_by p.name os ∷ []) (take_all (member_count p) (outs r s t at xs) (omega (arith, n, len)))
    ∙ ap (λ q. q ∷ []) (part_is r s t at p.name p.value f)
parts_are r s t at (p ∷ q ∷ ps) f =
    let xs = joined p.name p.value in
    let bar = lexeme (Pipe, p.bar) in
    let rest = rejoined (q ∷ ps) in
    let os = outs r s t at (xs ++ bar ∷ rest) in
    let n = count_joined p.name p.value p.bar in
    let front : take (member_count p) os ≡ outs r s t at xs = ap (λ k. take k os) n ∙ front_taken r s t at xs (bar ∷ rest) f in
    let back : drop (member_count p + 1) os ≡ outs r (starts t (at + width_of xs + p.bar)) t (at + width_of xs + p.bar) rest = ap (λ k. drop (k + 1) os) n
    ∙ bar_last r s t at p.bar xs rest f in
    ap (λ zs. part_by p.name zs ∷ part_outputs (q ∷ ps) (drop (member_count p + 1) os)) front
    ∙ ap (λ zs. part_by p.name (outs r s t at xs) ∷ part_outputs (q ∷ ps) zs) back
    ∙ ap (λ o. o ∷ part_outputs (q ∷ ps) (outs r (starts t (at + width_of xs + p.bar)) t (at + width_of xs + p.bar) rest))
    (part_is r s t at p.name p.value (full_front xs (bar ∷ rest) f))
    ∙ ap (λ os. part_given r s t at p.name p.value ∷ os)
    (parts_are r (starts t (at + width_of xs + p.bar)) t (at + width_of xs + p.bar) (q ∷ ps) (full_back xs (bar ∷ rest) f).1)

-- ---- the parts of a call

record SignsSame (x : Member) (a b : ℕ) : Type 0 where
  put : (later : Bool) (ps : List PartMembers) → with_sign_of later x (sign_of x a) ps ≡ with_sign_of later x (sign_of x b) ps
  after : (later : Bool) → later_after later (sign_of x a) ≡ later_after later (sign_of x b)

signs_same : (x : Member) (a b : ℕ) → SignsSame x a b
signs_same (call k ms) a b = record { put = λ later ps. refl; after = λ later. refl }
signs_same (lexeme (lex.Chars, n)) a b = record { put = λ later ps. refl; after = λ later. refl }
signs_same (lexeme (lex.CommentLine, n)) a b = record { put = λ later ps. refl; after = λ later. refl }
signs_same (lexeme (lex.Comment, n)) a b = record { put = λ later ps. refl; after = λ later. refl }
signs_same (lexeme (lex.Raw, n)) a b = record { put = λ later ps. refl; after = λ later. refl }
signs_same (lexeme (lex.Include, n)) a b = record { put = λ later ps. refl; after = λ later. refl }
signs_same (lexeme (lex.Hidden, n)) a b = record { put = λ later ps. refl; after = λ later. refl }
signs_same (lexeme (lex.Entity c, n)) a b = record { put = λ later ps. refl; after = λ later. refl }
signs_same (lexeme (lex.Opens, n)) a b = record { put = λ later ps. refl; after = λ later. refl }
signs_same (lexeme (lex.Closes, n)) a b = record { put = λ later ps. refl; after = λ later. refl }
signs_same (lexeme (lex.LinkOpen, n)) a b = record { put = λ later ps. refl; after = λ later. refl }
signs_same (lexeme (lex.LinkClose, n)) a b = record { put = λ later ps. refl; after = λ later. refl }
signs_same (lexeme (lex.Pipe, n)) a b = record { put = λ later ps. refl; after = λ later. refl }
signs_same (lexeme (lex.Equals, n)) a b = record { put = λ later ps. refl; after = λ later. refl }

-- where a call stands has no part in how its members are split
split_same : (later : Bool) (a b : ℕ) (before xs : List Member) → split_members later a before xs ≡ split_members later b before xs
split_same later a b before [] = refl
split_same later a b before (x ∷ xs) = by_link (in_link before xs) (λ l. split_same l (a + width x) (b + width x) (x ∷ before) xs)
  where
    by_link : (t : Bool) → ((l : Bool) → split_members l (a + width x) (x ∷ before) xs ≡ split_members l (b + width x) (x ∷ before) xs)
        → with_sign_of later x (if t then [] else sign_of x a) (split_members (later_after later (if t then [] else sign_of x a)) (a + width x) (x ∷ before) xs)
        ≡ with_sign_of later x (if t then [] else sign_of x b) (split_members (later_after later (if t then [] else sign_of x b)) (b + width x) (x ∷ before) xs)
    by_link true on = ap (with_sign_of later x []) (on later)
    by_link false on =
        let s = signs_same x a b in
        ap (with_sign_of later x (sign_of x a)) (on (later_after later (sign_of x a)))
        ∙ s.put later (split_members (later_after later (sign_of x a)) (b + width x) (x ∷ before) xs)
        ∙ ap (λ l. with_sign_of later x (sign_of x b) (split_members l (b + width x) (x ∷ before) xs)) (s.after later)

pub call_places : (from : ℕ) (ms : Members) → parts_of from ms ≡ placed from (part_members 0 ms)
call_places from ms = part_places from ms ∙ ap (placed from) (split_same false from 0 [] (listed ms))

pub call_parts : (r : Reading) (t : List ℕ) (p k : ℕ) (ms : Members) → AreFull ms
    → part_outputs (part_members 0 ms) (outputs_of r false (drop k (drop p t)) ms) ≡ parts_given r false t (p + k) (part_members 0 ms)
call_parts r t p k ms f =
    let same = parts_join 0 ms in
    ap (λ bs. part_outputs (part_members 0 ms) (outputs_of r false bs ms)) (drop-drop k p t)
    ∙ ap (λ ns. part_outputs (part_members 0 ms) (outputs_of r false (drop (p + k) t) ns)) (sym (members_listed ms))
    ∙ ap (λ xs. part_outputs (part_members 0 ms) (outs r false t (p + k) xs)) (sym same)
    ∙ parts_are r false t (p + k) (part_members 0 ms) (subst AllFull (sym same) (full_listed ms f))
