-- No number unknown, repeated or moved: under each kept parent the kept nodes are some of the page's, in
-- their order.
use Rattle.std.proofs.Common.{◌≡◌, ◌≢◌, ◌<◌, ◌+◌, ℕ, zero, suc, Bool, true, false, List, [], ◌∷◌, ◌++◌, map, refl, sym, ap, ◌∙◌, subst, arith, inl, inr, ◌⊎◌}
use Rattle.std.specs.Prelude.{◌==◌, ◌&&◌, ◌||◌, not, nat_lt, if◌then◌else◌, filter, Option, Some, None}
use Rattle.std.specs.List.{AllByRecursion, range_with_len}
use Rattle.std.proofs.lemmas.Bool.{cases_eq}
use Rattle.std.proofs.lemmas.Bool.Decides.{nat_tests}
use Rattle.wt_checks.specs.Ids.{stands, greater_stands, has_parent, is_there, is_unknown, is_repeated, is_moved}
use Rattle.wt_checks.specs.Kept.{IsSublist, kept_under, InOrder}
use Rattle.wt_checks.specs.Places.{Place, number, is_kept, numbered, Condition, Page, first_after}
use Rattle.wt_checks.proofs.Repeated.{any_push, or_false, and_not}

-- ---- a condition that holds of no place

abbrev pub Nowhere : Condition → List Place → List Place → Type 0
Nowhere C before [] = Unit {0}
Nowhere C before (p ∷ after) = (C before p after ≡ false) × Nowhere C (before ++ p ∷ []) after

nowhere_by : (b : Bool) (n : ℕ) (o : Option ℕ) → (if b then Some n else o) ≡ None → (b ≡ false) × (o ≡ None)
nowhere_by true n o e = absurd (cc)
nowhere_by false n o e = (refl, e)

pub nowhere : (C : Condition) (before ps : List Place) → first_after C before ps ≡ None → Nowhere C before ps
nowhere C before [] e = tt
nowhere C before (p ∷ after) e =
    let h = nowhere_by (C before p after) (number p) (first_after C (before ++ p ∷ []) after) e in
    (h.0, nowhere C (before ++ p ∷ []) after h.1)

pub none_first : (C : Condition) (before ps : List Place) → Nowhere C before ps → first_after C before ps ≡ None
none_first C before [] h = refl
none_first C before (p ∷ after) h = ap (λ b. if b then Some (number p) else first_after C (before ++ p ∷ []) after) h.0
    ∙ none_first C (before ++ p ∷ []) after h.1

-- ---- increasing lists of numbers

abbrev pub Above : ℕ → List ℕ → Type 0
Above m ns = AllByRecursion (λ k. m < k) ns

abbrev pub Increasing : List ℕ → Type 0
Increasing [] = Unit {0}
Increasing (n ∷ ns) = Above n ns × Increasing ns

abbrev pub Member : ℕ → List ℕ → Type 0
Member k [] = ⊥
Member k (n ∷ ns) = (n ≡ k) ⊎ Member k ns

above_member : (m k : ℕ) (ns : List ℕ) → Above m ns → Member k ns → m < k
above_member m k [] h e = absurd e
above_member m k (n ∷ ns) h (inl e) = subst (λ (i : ℕ). m < i) e h.0
above_member m k (n ∷ ns) h (inr e) = above_member m k ns h.1 e

abbrev pub Members : List ℕ → List ℕ → Type 0
Members xs ys = AllByRecursion (λ k. Member k ys) xs

-- members above the first one stand behind it
members_behind : (y : ℕ) (xs ys : List ℕ) → Above y xs → Members xs (y ∷ ys) → Members xs ys
members_behind y [] ys a h = tt
members_behind y (x ∷ xs) ys a h = (behind y x ys a.0 h.0, members_behind y xs ys a.1 h.1)
  where
    behind : (y x : ℕ) (ys : List ℕ) → y < x → Member x (y ∷ ys) → Member x ys
    behind y x ys lt (inl e) = absurd (omega (arith, lt, e))
    behind y x ys lt (inr e) = e

above_less : (m n : ℕ) (ns : List ℕ) → m < n → Above n ns → Above m ns
above_less m n [] lt h = tt
above_less m n (k ∷ ks) lt h = (omega (arith, lt, h.0), above_less m n ks lt h.1)

pub sublist_of_members : (xs ys : List ℕ) → Increasing xs → Increasing ys → Members xs ys → IsSublist xs ys
sublist_of_members [] ys i j h = tt
sublist_of_members (x ∷ xs) [] i j h = absurd h.0
sublist_of_members (x ∷ xs) (y ∷ ys) i j h =
    elim (cases_eq y x) [
      | inl e ↦ inl (sym e, sublist_of_members xs ys i.1 j.1 (members_behind y xs ys (subst (λ (k : ℕ). Above k xs) (sym e) i.0) h.1))
      | inr d ↦ let m : Member x ys = elim h.0 as (λ w. Member x ys) [ inl e ↦ absurd (d e) | inr k ↦ k ] in
          let lt : y < x = above_member y x ys j.0 m in
          inr (sublist_of_members (x ∷ xs) ys i j.1 (m, members_behind y xs ys (above_less y x xs lt i.0) h.1))
    ]

sublist_member : (xs ys : List ℕ) (k : ℕ) → IsSublist xs ys → Member k xs → Member k ys
sublist_member [] ys k s m = absurd m
sublist_member (x ∷ xs) [] k s m = absurd s
sublist_member (x ∷ xs) (y ∷ ys) k (inl s) (inl m) = inl (sym s.0 ∙ m)
sublist_member (x ∷ xs) (y ∷ ys) k (inl s) (inr m) = inr (sublist_member xs ys k s.1 m)
sublist_member (x ∷ xs) (y ∷ ys) k (inr s) m = inr (sublist_member (x ∷ xs) ys k s m)

sublist_above : (m : ℕ) (xs ys : List ℕ) → IsSublist xs ys → Above m ys → Above m xs
sublist_above m [] ys s a = tt
sublist_above m (x ∷ xs) [] s a = absurd s
sublist_above m (x ∷ xs) (y ∷ ys) (inl s) a = (subst (λ (k : ℕ). m < k) (sym s.0) a.0, sublist_above m xs ys s.1 a.1)
sublist_above m (x ∷ xs) (y ∷ ys) (inr s) a = sublist_above m (x ∷ xs) ys s a.1

pub sublist_increasing : (xs ys : List ℕ) → IsSublist xs ys → Increasing ys → Increasing xs
sublist_increasing [] ys s j = tt
sublist_increasing (x ∷ xs) [] s j = absurd s
sublist_increasing (x ∷ xs) (y ∷ ys) (inl s) j = (subst (λ (k : ℕ). Above k xs) (sym s.0) (sublist_above y xs ys s.1 j.0), sublist_increasing xs ys s.1 j.1)
sublist_increasing (x ∷ xs) (y ∷ ys) (inr s) j = sublist_increasing (x ∷ xs) ys s j.1

range_above : (k m a : ℕ) → m < a → Above m (range_with_len a k)
range_above zero m a lt = tt
range_above (suc k) m a lt = (lt, range_above k m (a + 1) (omega (arith, lt)))

pub range_increasing : (k a : ℕ) → Increasing (range_with_len a k)
range_increasing zero a = tt
range_increasing (suc k) a = (range_above k a (a + 1) (omega arith), range_increasing k (a + 1))

-- ---- the kept nodes of a parent among all kept nodes

abbrev kept_numbers : List Place → List ℕ
kept_numbers ps = map number (filter is_kept ps)

under_above : (m n : ℕ) (ps : List Place) → Above m (kept_numbers ps) → Above m (kept_under n ps)
under_above m n [] h = tt
under_above m n (p ∷ ps) h = under_by (is_kept p) (p.parent == n) m p (filter is_kept ps) (kept_under n ps) (under_above m n ps) h
  where
    under_by : (k b : Bool) (m : ℕ) (p : Place) (qs : List Place) (ns : List ℕ) → (Above m (map number qs) → Above m ns)
        → Above m (map number (if k then p ∷ qs else qs)) → Above m (if k && b then number p ∷ ns else ns)
    under_by true true m p qs ns f h = (h.0, f h.1)
    under_by true false m p qs ns f h = f h.1
    under_by false b m p qs ns f h = f h

pub under_increasing : (n : ℕ) (ps : List Place) → Increasing (kept_numbers ps) → Increasing (kept_under n ps)
under_increasing n [] h = tt
under_increasing n (p ∷ ps) h = increasing_by (is_kept p) (p.parent == n) p (filter is_kept ps) (kept_under n ps)
    (under_above (number p) n ps) (under_increasing n ps) h
  where
    increasing_by : (k b : Bool) (p : Place) (qs : List Place) (ns : List ℕ)
        → (Above (number p) (map number qs) → Above (number p) ns) → (Increasing (map number qs) → Increasing ns)
        → Increasing (map number (if k then p ∷ qs else qs))
        → Increasing (if k && b then number p ∷ ns else ns)
    increasing_by true true p qs ns f g h = (f h.0, g h.1)
    increasing_by true false p qs ns f g h = g h.1
    increasing_by false b p qs ns f g h = g h

-- ---- from the conditions

-- what is known of the places before: a node of theirs has number m and kept parent n
abbrev Passed : ℕ → ℕ → List Place → Type 0
Passed n m before = (k : ℕ) → greater_stands n k before ≡ false → stands k before ≡ false → m < k

passed_more : (n m : ℕ) (before : List Place) (q : Place) → Passed n m before → Passed n m (before ++ q ∷ [])
passed_more n m before q h k g s =
    h k ((or_false (greater_stands n k before) (is_kept q && (q.parent == n && nat_lt k (number q)))
    (sym (any_push (λ r. is_kept r && (r.parent == n && nat_lt k (number r))) before q) ∙ g)).0)
    ((or_false (stands k before) (number q == k) (sym (any_push (λ r. number r == k) before q) ∙ s)).0)

less_by : (m k : ℕ) → (true && (true && nat_lt k m)) ≡ false → (m == k) ≡ false → m < k
less_by m k g s = grind (arith, nat_tests)

passed_last : (n : ℕ) (before : List Place) (p : Place) → is_kept p ≡ true → (p.parent == n) ≡ true → Passed n (number p) (before ++ p ∷ [])
passed_last n before p e f k g s =
    let a = (or_false (greater_stands n k before) (is_kept p && (p.parent == n && nat_lt k (number p)))
    (sym (any_push (λ r. is_kept r && (r.parent == n && nat_lt k (number r))) before p) ∙ g)).1 in
    let b = (or_false (stands k before) (number p == k) (sym (any_push (λ r. number r == k) before p) ∙ s)).1 in
    less_by (number p) k (ap (λ t. t && (true && nat_lt k (number p))) (sym e) ∙ ap (λ t. is_kept p && (t && nat_lt k (number p))) (sym f) ∙ a) b

pub same_by : (a b : ℕ) → (a == b) ≡ true → a ≡ b
same_by a b e = grind (arith, nat_tests)

pub not_false : (b : Bool) → not b ≡ false → b ≡ true
not_false true e = refl
not_false false e = absurd (cc)

-- the tests of a kept node that is neither moved nor repeated
fine : (page : Page) (before : List Place) (p : Place) (after : List Place) → is_kept p ≡ true
    → is_moved page before p after ≡ false → is_repeated before p after ≡ false
    → (has_parent p.parent (page (number p)) ≡ true) × (greater_stands p.parent (number p) before ≡ false) × (stands (number p) before ≡ false)
fine page before p after k m r =
    let a = or_false (not (has_parent p.parent (page (number p)))) (greater_stands p.parent (number p) before)
    (and_not (is_kept p) (not (has_parent p.parent (page (number p))) || greater_stands p.parent (number p) before) m k) in
    let b = or_false (stands (number p) before) (stands (number p) after) (and_not (is_kept p) (stands (number p) before || stands (number p) after) r k) in
    (not_false (has_parent p.parent (page (number p))) a.0, a.1, b.0)

above_step : (k t : Bool) (m : ℕ) (p : Place) (ns : List ℕ) → (k ≡ true → t ≡ true → m < number p) → Above m ns → Above m (if k && t then number p ∷ ns else ns)
above_step true true m p ns f a = (f refl refl, a)
above_step true false m p ns f a = a
above_step false t m p ns f a = a

above_under : (page : Page) (n m : ℕ) (before ps : List Place) → Passed n m before → Nowhere (is_moved page) before ps
    → Nowhere is_repeated before ps → Above m (kept_under n ps)
above_under page n m before [] h a b = tt
above_under page n m before (p ∷ ps) h a b =
    above_step (is_kept p) (p.parent == n) m p (kept_under n ps)
    (λ k t. let f = fine page before p ps k a.0 b.0 in
    h (number p) (subst (λ (i : ℕ). greater_stands i (number p) before ≡ false) (same_by p.parent n t) f.1) f.2)
    (above_under page n m (before ++ p ∷ []) ps (passed_more n m before p h) a.1 b.1)

increasing_step : (k t : Bool) (p : Place) (ns : List ℕ) → (k ≡ true → t ≡ true → Above (number p) ns) → Increasing ns
    → Increasing (if k && t then number p ∷ ns else ns)
increasing_step true true p ns f a = (f refl refl, a)
increasing_step true false p ns f a = a
increasing_step false t p ns f a = a

increasing_under : (page : Page) (n : ℕ) (before ps : List Place) → Nowhere (is_moved page) before ps
    → Nowhere is_repeated before ps → Increasing (kept_under n ps)
increasing_under page n before [] a b = tt
increasing_under page n before (p ∷ ps) a b =
    increasing_step (is_kept p) (p.parent == n) p (kept_under n ps)
    (λ k t. above_under page n (number p) (before ++ p ∷ []) ps (passed_last n before p k t) a.1 b.1)
    (increasing_under page n (before ++ p ∷ []) ps a.1 b.1)

-- ---- what the page has, and the kept nodes under a parent

pub kept_not_zero : (n : ℕ) → not (n == 0) ≡ true → n ≢ 0
kept_not_zero n e z = let f : not (n == 0) ≡ false = grind (arith, nat_tests) in absurd (cc)

pub not_zero_kept : (n : ℕ) → n ≢ 0 → not (n == 0) ≡ true
not_zero_kept n e = grind (arith, nat_tests)

member_more : (b : Bool) (k i : ℕ) (ns : List ℕ) → Member k ns → Member k (if b then i ∷ ns else ns)
member_more true k i ns m = inr m
member_more false k i ns m = m

member_first : (k t : Bool) (i j : ℕ) (ns : List ℕ) → k ≡ true → t ≡ true → i ≡ j → Member j (if k && t then i ∷ ns else ns)
member_first true true i j ns e f g = inl g
member_first true false i j ns e f g = absurd (cc)
member_first false t i j ns e f g = absurd (cc)

found_member : (k n : ℕ) (ps : List Place) → k ≢ 0 → has_parent n (numbered k ps) ≡ true → Member k (kept_under n ps)
found_member k n [] z h = absurd (cc)
found_member k n (p ∷ ps) z h = member_by (number p == k) refl (λ g. found_member k n ps z g) h
  where
    member_by : (b : Bool) → (number p == k) ≡ b → (has_parent n (numbered k ps) ≡ true → Member k (kept_under n ps))
        → has_parent n (if b then Some p else numbered k ps) ≡ true → Member k (kept_under n (p ∷ ps))
    member_by true e f g =
        let s : number p ≡ k = same_by (number p) k e in
        member_first (is_kept p) (p.parent == n) (number p) k (kept_under n ps) (not_zero_kept (number p) (λ y. z (sym s ∙ y))) g s
    member_by false e f g = member_more (is_kept p && p.parent == n) k (number p) (kept_under n ps) (f g)

parent_right : (page : Page) (before : List Place) (p : Place) (after : List Place) → is_kept p ≡ true
    → is_moved page before p after ≡ false → has_parent p.parent (page (number p)) ≡ true
parent_right page before p after k m =
    not_false (has_parent p.parent (page (number p)))
    ((or_false (not (has_parent p.parent (page (number p)))) (greater_stands p.parent (number p) before)
    (and_not (is_kept p) (not (has_parent p.parent (page (number p))) || greater_stands p.parent (number p) before) m k)).0)

members_step : (k t : Bool) (p : Place) (xs ys : List ℕ) → (k ≡ true → t ≡ true → Member (number p) ys) → Members xs ys
    → Members (if k && t then number p ∷ xs else xs) ys
members_step true true p xs ys f h = (f refl refl, h)
members_step true false p xs ys f h = h
members_step false t p xs ys f h = h

members_under : (page : List Place) (n : ℕ) (before ps : List Place) → Nowhere (is_moved (λ k. numbered k page)) before ps
    → Members (kept_under n ps) (kept_under n page)
members_under page n before [] a = tt
members_under page n before (p ∷ ps) a =
    members_step (is_kept p) (p.parent == n) p (kept_under n ps) (kept_under n page)
    (λ k t. subst (λ (i : ℕ). Member (number p) (kept_under i page)) (same_by p.parent n t)
    (found_member (number p) p.parent page (kept_not_zero (number p) k) (parent_right (λ i. numbered i page) before p ps k a.0)))
    (members_under page n (before ++ p ∷ []) ps a.1)

pub in_order : (page edited : List Place) → Increasing (kept_numbers page) → Nowhere (is_moved (λ k. numbered k page)) [] edited
    → Nowhere is_repeated [] edited → InOrder page edited
in_order page edited inc a b =
    λ n. sublist_of_members (kept_under n edited) (kept_under n page) (increasing_under (λ k. numbered k page) n [] edited a b)
    (under_increasing n page inc) (members_under page n [] edited a)

-- ---- and back: the page has the node under its parent

increasing_rest : (k : Bool) (p : Place) (qs : List Place) → Increasing (map number (if k then p ∷ qs else qs)) → Increasing (map number qs)
increasing_rest true p qs h = h.1
increasing_rest false p qs h = h

above_rest : (k : Bool) (p : Place) (qs : List Place) → k ≡ true → Increasing (map number (if k then p ∷ qs else qs)) → Above (number p) (map number qs)
above_rest true p qs e h = h.0
above_rest false p qs e h = absurd (cc)

member_rest : (b : Bool) (k i : ℕ) (ns : List ℕ) → i ≢ k → Member k (if b then i ∷ ns else ns) → Member k ns
member_rest true k i ns d (inl e) = absurd (d e)
member_rest true k i ns d (inr m) = m
member_rest false k i ns d m = m

not_same : (a b : ℕ) → (a == b) ≡ false → a ≢ b
not_same a b e s = let f : (a == b) ≡ true = grind (arith, nat_tests) in absurd (cc)

member_parent : (k n : ℕ) (ps : List Place) → k ≢ 0 → Increasing (kept_numbers ps) → Member k (kept_under n ps) → has_parent n (numbered k ps) ≡ true
member_parent k n [] z inc m = absurd m
member_parent k n (p ∷ ps) z inc m =
    parent_by (number p == k) refl (λ j. member_parent k n ps z (increasing_rest (is_kept p) p (filter is_kept ps) inc) j)
  where
    here_by : (c t : Bool) → is_kept p ≡ c → c ≡ true → number p ≡ k → Member k (if c && t then number p ∷ kept_under n ps else kept_under n ps) → t ≡ true
    here_by true true e f s m = refl
    here_by true false e f s m =
        let lt : number p < k = above_member (number p) k (kept_under n ps)
        (under_above (number p) n ps (above_rest (is_kept p) p (filter is_kept ps) e inc)) m in
        absurd (omega (arith, lt, s))
    here_by false t e f s m = absurd (cc)

    parent_by : (b : Bool) → (number p == k) ≡ b → (Member k (kept_under n ps) → has_parent n (numbered k ps) ≡ true)
        → has_parent n (if b then Some p else numbered k ps) ≡ true
    parent_by true e f =
        let s : number p ≡ k = same_by (number p) k e in
        here_by (is_kept p) (p.parent == n) refl (not_zero_kept (number p) (λ y. z (sym s ∙ y))) s m
    parent_by false e f = f (member_rest (is_kept p && p.parent == n) k (number p) (kept_under n ps) (not_same (number p) k e) m)

-- ---- and no condition holds

-- what is known of a kept node of the edited tree
abbrev pub Right : Page → Place → Type 0
Right page p = is_kept p ≡ true → has_parent p.parent (page (number p)) ≡ true

member_later : (b : Bool) (k i : ℕ) (ns : List ℕ) → Member k ns → Member k (if b then i ∷ ns else ns)
member_later b k i ns m = member_more b k i ns m

pub test_equal : (a b : ℕ) → a ≡ b → (a == b) ≡ true
test_equal a b e = grind (arith, nat_tests)

pub all_right : (page : List Place) (all ps : List Place) → Increasing (kept_numbers page) → InOrder page all
    → ((n k : ℕ) → Member k (kept_under n ps) → Member k (kept_under n all)) → AllByRecursion (Right (λ k. numbered k page)) ps
all_right page all [] inc o h = tt
all_right page all (p ∷ ps) inc o h = (
  λ e. member_parent (number p) p.parent page (kept_not_zero (number p) e) inc
      (sublist_member (kept_under p.parent all) (kept_under p.parent page) (number p) (o p.parent)
      (h p.parent (number p) (member_first (is_kept p) (p.parent == p.parent) (number p) (number p) (kept_under p.parent ps) e
      (test_equal p.parent p.parent refl) refl))),
  all_right page all ps inc o (λ n k m. h n k (member_more (is_kept p && p.parent == n) k (number p) (kept_under n ps) m)),
)

-- a kept node and one behind it
record Behind (p q : Place) : Type 0 where
  other : number p ≢ number q
  later : p.parent ≡ q.parent → number p < number q

parent_one : (m n : ℕ) (o : Option Place) → has_parent m o ≡ true → has_parent n o ≡ true → m ≡ n
parent_one m n None e f = absurd (cc)
parent_one m n (Some q) e f = sym (same_by q.parent m e) ∙ same_by q.parent n f

above_here : (k t : Bool) (m i : ℕ) (ns : List ℕ) → k ≡ true → t ≡ true → Above m (if k && t then i ∷ ns else ns) → m < i
above_here true true m i ns e f a = a.0
above_here true false m i ns e f a = absurd (cc)
above_here false t m i ns e f a = absurd (cc)

above_there : (b : Bool) (m i : ℕ) (ns : List ℕ) → Above m (if b then i ∷ ns else ns) → Above m ns
above_there true m i ns a = a.1
above_there false m i ns a = a

behind_all : (page : Page) (p : Place) (ps : List Place) → is_kept p ≡ true → Right page p
    → Above (number p) (kept_under p.parent ps) → AllByRecursion (Right page) ps → AllByRecursion (λ q. is_kept q ≡ true → Behind p q) ps
behind_all page p [] k r a h = tt
behind_all page p (q ∷ ps) k r a h = (
  λ e. elim (cases_eq q.parent p.parent) [
    | inl s ↦ let lt : number p < number q = above_here (is_kept q) (q.parent == p.parent) (number p) (number q)
        (kept_under p.parent ps) e (test_equal q.parent p.parent s) a in
        record { other = λ i. omega (arith, lt, i); later = λ i. lt }
    | inr d ↦ record {
      other = λ i. d (parent_one q.parent p.parent (page (number p)) (ap (λ m. has_parent q.parent (page m)) i ∙ h.0 e) (r k));
      later = λ i. absurd (d (sym i));
    }
  ],
  behind_all page p ps k r (above_there (is_kept q && q.parent == p.parent) (number p) (number q) (kept_under p.parent ps) a) h.1,
)

-- what is known of the places before
abbrev Free : List Place → Place → Type 0
Free before p = is_kept p ≡ true → (greater_stands p.parent (number p) before ≡ false) × (stands (number p) before ≡ false)

or_both : (a b : Bool) → a ≡ false → b ≡ false → (a || b) ≡ false
or_both false b e f = f
or_both true b e f = absurd (cc)

pub test_other : (a b : ℕ) → a ≢ b → (a == b) ≡ false
test_other a b e = grind (arith, nat_tests)

test_greater : (a b : ℕ) → a < b → nat_lt b a ≡ false
test_greater a b e = grind (arith, nat_tests)

greater_test : (k t : Bool) (l : Bool) → (k ≡ true → t ≡ true → l ≡ false) → (k && (t && l)) ≡ false
greater_test true true l f = f refl refl
greater_test true false l f = refl
greater_test false t l f = refl

pub zero_of : (n : ℕ) → not (n == 0) ≡ false → n ≡ 0
zero_of n e = grind (arith, nat_tests)

free_push : (before : List Place) (p q : Place) → (is_kept p ≡ true → is_kept q ≡ true → Behind p q) → Free before q → Free (before ++ p ∷ []) q
free_push before p q b h k =
    let f = h k in (
      any_push (λ r. is_kept r && (r.parent == q.parent && nat_lt (number q) (number r))) before p
          ∙ or_both (greater_stands q.parent (number q) before) (is_kept p && (p.parent == q.parent && nat_lt (number q) (number p))) f.0
          (greater_test (is_kept p) (p.parent == q.parent) (nat_lt (number q) (number p))
          (λ e t. test_greater (number p) (number q) ((b e k).later (same_by p.parent q.parent t)))),
      any_push (λ r. number r == number q) before p ∙ or_both (stands (number q) before) (number p == number q) f.1 (different (is_kept p) refl),
    )
  where
    different : (c : Bool) → is_kept p ≡ c → (number p == number q) ≡ false
    different true e = test_other (number p) (number q) ((b e k).other)
    different false e = test_other (number p) (number q) (λ i. kept_not_zero (number q) k (sym i ∙ zero_of (number p) e))

free_all : (before : List Place) (p : Place) (ps : List Place)
    → (is_kept p ≡ true → AllByRecursion (λ q. is_kept q ≡ true → Behind p q) ps) → AllByRecursion (Free before) ps
    → AllByRecursion (Free (before ++ p ∷ [])) ps
free_all before p [] b h = tt
free_all before p (q ∷ ps) b h = (free_push before p q (λ e k. (b e).0 k) h.0, free_all before p ps (λ e. (b e).1) h.1)

none_stands : (p : Place) (ps : List Place) → is_kept p ≡ true → AllByRecursion (λ q. is_kept q ≡ true → Behind p q) ps → stands (number p) ps ≡ false
none_stands p [] k b = refl
none_stands p (q ∷ ps) k b = or_both (number q == number p) (stands (number p) ps) (different (is_kept q) refl) (none_stands p ps k b.1)
  where
    different : (c : Bool) → is_kept q ≡ c → (number q == number p) ≡ false
    different true e = test_other (number q) (number p) (λ i. (b.0 e).other (sym i))
    different false e = test_other (number q) (number p) (λ i. kept_not_zero (number p) k (sym i ∙ zero_of (number q) e))

-- the three tests at a place
test_by : (k t : Bool) → (k ≡ true → t ≡ false) → (k && t) ≡ false
test_by true t f = f refl
test_by false t f = refl

there_of_parent : (n : ℕ) (o : Option Place) → has_parent n o ≡ true → is_there o ≡ true
there_of_parent n None e = absurd (cc)
there_of_parent n (Some q) e = refl

pub record NoneOfThem (page : Page) (before ps : List Place) : Type 0 where
  pub unknown : Nowhere (is_unknown page) before ps
  pub repeated : Nowhere is_repeated before ps
  pub moved : Nowhere (is_moved page) before ps

pub increasing_tail : (n : ℕ) (p : Place) (ps : List Place) → Increasing (kept_under n (p ∷ ps)) → Increasing (kept_under n ps)
increasing_tail n p ps h = tail_by (is_kept p && p.parent == n) (number p) (kept_under n ps) h
  where
    tail_by : (b : Bool) (i : ℕ) (ns : List ℕ) → Increasing (if b then i ∷ ns else ns) → Increasing ns
    tail_by true i ns h = h.1
    tail_by false i ns h = h

above_tail : (p : Place) (ps : List Place) → is_kept p ≡ true → Increasing (kept_under p.parent (p ∷ ps)) → Above (number p) (kept_under p.parent ps)
above_tail p ps k h = tail_by (is_kept p) (p.parent == p.parent) (number p) (kept_under p.parent ps) k (test_equal p.parent p.parent refl) h
  where
    tail_by : (c t : Bool) (i : ℕ) (ns : List ℕ) → c ≡ true → t ≡ true → Increasing (if c && t then i ∷ ns else ns) → Above i ns
    tail_by true true i ns e f h = h.0
    tail_by true false i ns e f h = absurd (cc)
    tail_by false t i ns e f h = absurd (cc)

none_from : (page : Page) (before ps : List Place) → AllByRecursion (Right page) ps → ((n : ℕ) → Increasing (kept_under n ps))
    → AllByRecursion (Free before) ps → NoneOfThem page before ps
none_from page before [] r inc f = record { unknown = tt; repeated = tt; moved = tt }
none_from page before (p ∷ ps) r inc f =
    let later = λ (k : is_kept p ≡ true). behind_all page p ps k r.0 (above_tail p ps k (inc p.parent)) r.1 in
    let rest = none_from page (before ++ p ∷ []) ps r.1 (λ n. increasing_tail n p ps (inc n)) (free_all before p ps later f.1) in
    record {
      unknown = (test_by (is_kept p) (not (is_there (page (number p)))) (λ k. ap not (there_of_parent p.parent (page (number p)) (r.0 k))), rest.unknown);
      repeated = (
        test_by (is_kept p) (stands (number p) before || stands (number p) ps)
            (λ k. or_both (stands (number p) before) (stands (number p) ps) (f.0 k).1 (none_stands p ps k (later k))),
        rest.repeated,
      );
      moved = (
        test_by (is_kept p) (not (has_parent p.parent (page (number p))) || greater_stands p.parent (number p) before)
            (λ k. or_both (not (has_parent p.parent (page (number p)))) (greater_stands p.parent (number p) before) (ap not (r.0 k))
            (f.0 k).0),
        rest.moved,
      );
    }

free_first : (ps : List Place) → AllByRecursion (Free []) ps
free_first [] = tt
free_first (p ∷ ps) = (λ k. (refl, refl), free_first ps)

pub none_of_them : (page edited : List Place) → Increasing (kept_numbers page) → InOrder page edited → NoneOfThem (λ k. numbered k page) [] edited
none_of_them page edited inc o =
    none_from (λ k. numbered k page) [] edited (all_right page edited edited inc o (λ n k m. m))
    (λ n. sublist_increasing (kept_under n edited) (kept_under n page) (o n) (under_increasing n page inc)) (free_first edited)
