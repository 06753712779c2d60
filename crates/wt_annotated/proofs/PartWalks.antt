-- The parts of a group, found by a walk over its items.
use Rattle.std.proofs.Common.{◌≡◌, ℕ, zero, suc, ◌+◌, ◌-◌, ◌≤◌, Bool, true, false, Option, None, Some, List, [], ◌∷◌, ◌++◌, length, drop, refl, ap, ◌∙◌, cond, arith, append-nil, length-append}
use Rattle.std.specs.Prelude.{slice_get}
use Rattle.wt_span.specs.Items.{Item, source, call_of}
use Rattle.wt_span.specs.Origins.{OuterCall}
use Rattle.wt_span.specs.Cuts.{call_of_item, source_of_call, text_by, text_at, text_between}
use Rattle.wt_annotated.specs.GroupParts.{Part, called, Begun, begun_by, begun_at, begun, slice_part, parts_by, parts}
use Rattle.wt_annotated.specs.Seams.{parted}
use Rattle.wt_annotated.specs.Walked.{part_step, parts_from}
use Rattle.wt_annotated.proofs.Calls.{at_get, at_rest}
use Rattle.wt_annotated.proofs.Places.{text_append}
use Rattle.wt_annotated.proofs.Seams.{before_call, free_is, after_is, step_is}

begun_is : (all : List Item) (n : ℕ) (x : Item) (rest : List Item) → drop n all ≡ x ∷ rest
    → begun_at all n ≡ cond (parted (before_call all n) (call_of x)) (begun_by n (call_of x)) []
begun_is all n x rest e =
    ap (λ v. cond v (begun_by n (call_of_item (slice_get all n))) []) (free_is all n ∙ ap (parted (before_call all n)) (after_is all n x rest e))
    ∙ ap (λ y. cond (parted (before_call all n) (call_of x)) (begun_by n (call_of_item y)) []) (at_get all n x rest e)

drop_more : (k : ℕ) (xs ys : List ℕ) → k ≤ length xs → drop k (xs ++ ys) ≡ drop k xs ++ ys
drop_more zero [] ys l = refl
drop_more zero (x ∷ xs) ys l = refl
drop_more (suc k) [] ys l = absurd (omega (arith, l))
drop_more (suc k) (x ∷ xs) ys l = drop_more k xs ys (omega (arith, l))

drop_all : (xs : List ℕ) → drop (length xs) xs ≡ []
drop_all [] = refl
drop_all (x ∷ xs) = drop_all xs

-- what stands since the call that began at a cut, up to another
abbrev since_at : List OuterCall → List Item → Begun → ℕ → List ℕ
since_at calls all (m, j) n = drop (length (source_of_call (slice_get calls j))) (text_between calls all m (n - m))

-- the call's own bytes stand before that other cut
abbrev Past : List OuterCall → List Item → Begun → ℕ → Type 0
Past calls all (m, j) n = (m ≤ n) × (length (source_of_call (slice_get calls j)) ≤ length (text_between calls all m (n - m)))

one_more : (calls : List OuterCall) (all : List Item) (m n : ℕ) → m ≤ n
    → text_between calls all m (suc n - m) ≡ text_between calls all m (n - m) ++ text_at calls all n
one_more calls all m n l =
    let e : suc n - m ≡ n - m + 1 = omega (arith, l) in
    let f : m + (n - m) ≡ n = omega (arith, l) in
    ap (text_between calls all m) e ∙ text_append calls all m (n - m) 1 ∙ ap (λ k. text_between calls all m (n - m) ++ text_between calls all k 1) f
    ∙ ap (λ bs. text_between calls all m (n - m) ++ bs) (append-nil (text_at calls all n))

since_more : (calls : List OuterCall) (all : List Item) (b : Begun) (n : ℕ) → Past calls all b n
    → since_at calls all b (suc n) ≡ since_at calls all b n ++ text_at calls all n
since_more calls all (m, j) n h =
    ap (drop (length (source_of_call (slice_get calls j)))) (one_more calls all m n h.0)
    ∙ drop_more (length (source_of_call (slice_get calls j))) (text_between calls all m (n - m)) (text_at calls all n) h.1

past_more : (calls : List OuterCall) (all : List Item) (b : Begun) (n : ℕ) → Past calls all b n → Past calls all b (suc n)
past_more calls all (m, j) n h =
    (omega (arith, h.0), omega (arith, h.1, ap length (one_more calls all m n h.0), length-append (text_between calls all m (n - m)) (text_at calls all n)))

-- directly behind the item with which a call begins
begins : (calls : List OuterCall) (all : List Item) (n k : ℕ) → text_at calls all n ≡ source_of_call (slice_get calls k)
    → text_between calls all n (suc n - n) ≡ source_of_call (slice_get calls k)
begins calls all n k e =
    let one : suc n - n ≡ 1 = omega arith in
    ap (text_between calls all n) one ∙ append-nil (text_at calls all n) ∙ e

since_none : (calls : List OuterCall) (all : List Item) (n k : ℕ) → text_at calls all n ≡ source_of_call (slice_get calls k)
    → since_at calls all (n, k) (suc n) ≡ []
since_none calls all n k e = ap (drop (length (source_of_call (slice_get calls k)))) (begins calls all n k e) ∙ drop_all (source_of_call (slice_get calls k))

past_none : (calls : List OuterCall) (all : List Item) (n k : ℕ) → text_at calls all n ≡ source_of_call (slice_get calls k) → Past calls all (n, k) (suc n)
past_none calls all n k e = (omega arith, omega (arith, ap length (begins calls all n k e)))

-- a step behind a call
step_by : (calls : List OuterCall) (all : List Item) (b : Begun) (n : ℕ) (v : Bool) (o : Option ℕ) (bs : List ℕ) (ds : List Begun)
    (rest : Option (List ℕ) → List Part) → text_at calls all n ≡ cond v (text_by calls o bs) [] → Past calls all b n
    → ((c : Begun) → Past calls all c (suc n) → parts_by calls all (c ∷ ds) ≡ called c.1 ∷ rest (Some (since_at calls all c (suc n))))
    → parts_by calls all (b ∷ (cond v (begun_by n o) [] ++ ds)) ≡ called b.1 ∷ part_step v o bs (Some (since_at calls all b n)) rest
step_by calls all b n false o bs ds rest e h g = g b (past_more calls all b n h)
    ∙ ap (λ cs. called b.1 ∷ rest (Some cs)) (since_more calls all b n h ∙ ap (λ cs. since_at calls all b n ++ cs) e ∙ append-nil (since_at calls all b n))
step_by calls all b n true None bs ds rest e h g = g b (past_more calls all b n h)
    ∙ ap (λ cs. called b.1 ∷ rest (Some cs)) (since_more calls all b n h ∙ ap (λ cs. since_at calls all b n ++ cs) e)
step_by calls all (m, j) n true (Some k) bs ds rest e h g =
    ap (λ ps. called j ∷ (slice_part (since_at calls all (m, j) n) ++ ps))
    (g (n, k) (past_none calls all n k e) ∙ ap (λ cs. called k ∷ rest (Some cs)) (since_none calls all n k e))

-- a step before any call
first_by : (calls : List OuterCall) (all : List Item) (n : ℕ) (v : Bool) (o : Option ℕ) (bs : List ℕ) (ds : List Begun) (rest : Option (List ℕ) → List Part)
    → text_at calls all n ≡ cond v (text_by calls o bs) []
    → ((c : Begun) → Past calls all c (suc n) → parts_by calls all (c ∷ ds) ≡ called c.1 ∷ rest (Some (since_at calls all c (suc n))))
    → parts_by calls all ds ≡ rest None
    → parts_by calls all (cond v (begun_by n o) [] ++ ds) ≡ part_step v o bs None rest
first_by calls all n false o bs ds rest e g f = f
first_by calls all n true None bs ds rest e g f = f
first_by calls all n true (Some k) bs ds rest e g f = g (n, k) (past_none calls all n k e) ∙ ap (λ cs. called k ∷ rest (Some cs)) (since_none calls all n k e)

parts_behind : (calls : List OuterCall) (all : List Item) (n : ℕ) (xs ys : List Item) (b : Begun) → drop n all ≡ xs ++ ys → Past calls all b n
    → parts_by calls all (b ∷ begun all n (length xs)) ≡ called b.1 ∷ parts_from (before_call all n) (Some (since_at calls all b n)) xs
parts_behind calls all n [] ys b e h = refl
parts_behind calls all n (x ∷ xs) ys b e h =
    let rest : drop (suc n) all ≡ xs ++ ys = at_rest all n x (xs ++ ys) e in
    let next : before_call all (suc n) ≡ call_of x = after_is all n x (xs ++ ys) e in
    ap (λ cs. parts_by calls all (b ∷ (cs ++ begun all (suc n) (length xs)))) (begun_is all n x (xs ++ ys) e)
    ∙ step_by calls all b n (parted (before_call all n) (call_of x)) (call_of x) (source x) (begun all (suc n) (length xs))
    (λ s. parts_from (call_of x) s xs) (step_is calls all n x (xs ++ ys) e) h
    (λ c p. parts_behind calls all (suc n) xs ys c rest p ∙ ap (λ o. called c.1 ∷ parts_from o (Some (since_at calls all c (suc n))) xs) next)

pub parts_are : (calls : List OuterCall) (all : List Item) (n : ℕ) (xs ys : List Item) → drop n all ≡ xs ++ ys
    → parts calls all n (length xs) ≡ parts_from (before_call all n) None xs
parts_are calls all n [] ys e = refl
parts_are calls all n (x ∷ xs) ys e =
    let rest : drop (suc n) all ≡ xs ++ ys = at_rest all n x (xs ++ ys) e in
    let next : before_call all (suc n) ≡ call_of x = after_is all n x (xs ++ ys) e in
    ap (λ cs. parts_by calls all (cs ++ begun all (suc n) (length xs))) (begun_is all n x (xs ++ ys) e)
    ∙ first_by calls all n (parted (before_call all n) (call_of x)) (call_of x) (source x) (begun all (suc n) (length xs)) (λ s. parts_from (call_of x) s xs)
    (step_is calls all n x (xs ++ ys) e)
    (λ c p. parts_behind calls all (suc n) xs ys c rest p ∙ ap (λ o. called c.1 ∷ parts_from o (Some (since_at calls all c (suc n))) xs) next)
    (parts_are calls all (suc n) xs ys rest ∙ ap (λ o. parts_from o None xs) next)
