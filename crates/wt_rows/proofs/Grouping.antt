-- Units and groups of rows, cut from the front.
use Rattle.std.proofs.Common.{◌≡◌, ◌≤◌, ℕ, zero, suc, ◌+◌, Bool, true, false, not, List, [], ◌∷◌, ◌++◌, length, take, drop, map, refl, sym, ap, ◌∙◌, subst, cond, arith, length-drop}
use Rattle.std.specs.Prelude.{if◌then◌else◌}
use Rattle.std.specs.List.{prefix_len, AllByRecursion}
use Rattle.std.proofs.lemmas.List.{take_all, drop-drop, drop-map}
use Rattle.wt_span.specs.Runs.{put, runs}
use Rattle.wt_lines.specs.declared.kind.LineKind.{LineKind}
use Rattle.wt_lines.specs.declared.kind.LineKind.TheVariants as line
use Rattle.wt_tables.specs.Extents.{inner_len}
use Rattle.wt_tables.specs.Parts.{joined, taken_len, put_first, units_from, units, unit_kind, begins_part, begins_group, groups, group_kind, plain_len}
use Rattle.wt_rows.specs.Units.{plain_count}
use Rattle.wt_rows.specs.Groups.{group_rows}

-- ---- runs of a list in which only the second of two neighbours tells whether they join

one_more : (n : ℕ) → 1 + n ≡ suc n
one_more n = omega arith

runs_by : {A : Type 0} (t : Bool) (x y : A) (n : ℕ) (ys : List A) (all rs : List (List A)) → all ≡ (y ∷ take n ys) ∷ rs
    → (if t then (x ∷ y ∷ take n ys) ∷ rs else (x ∷ []) ∷ (y ∷ take n ys) ∷ rs)
    ≡ (x ∷ take (cond t (1 + n) 0) (y ∷ ys)) ∷ cond t rs all
runs_by true x y n ys all rs e = ap (λ m. (x ∷ take m (y ∷ ys)) ∷ rs) (sym (one_more n))
runs_by false x y n ys all rs e = ap (λ us. (x ∷ []) ∷ us) (sym e)

rest_by : {A : Type 0} (test : A → Bool) (t : Bool) (n : ℕ) (y : A) (ys : List A)
    → cond t (runs (λ a b. test b) (drop n ys)) (runs (λ a b. test b) (y ∷ ys)) ≡ runs (λ a b. test b) (drop (cond t (1 + n) 0) (y ∷ ys))
rest_by test true n y ys = ap (λ m. runs (λ a b. test b) (drop m (y ∷ ys))) (sym (one_more n))
rest_by test false n y ys = refl

pub runs_front : {A : Type 0} (test : A → Bool) (x : A) (ys : List A)
    → runs (λ a b. test b) (x ∷ ys) ≡ (x ∷ take (prefix_len test ys) ys) ∷ runs (λ a b. test b) (drop (prefix_len test ys) ys)
runs_front test x [] = refl
runs_front test x (y ∷ ys) =
    let joins : _ = λ a b. test b in
    let n = prefix_len test ys in
    let more = runs_front test y ys in
    ap (put joins x) more
    ∙ runs_by (test y) x y n ys (runs joins (y ∷ ys)) (runs joins (drop n ys)) more
    ∙ ap (λ rs. (x ∷ take (cond (test y) (1 + n) 0) (y ∷ ys)) ∷ rs) (rest_by test (test y) n y ys)

-- ---- units

from_front : {A : Type 0} (kind_of : A → LineKind) (n : ℕ) (ls : List A) → units_from kind_of n ls ≡ take n ls ∷ units kind_of (drop n ls)
from_front kind_of zero [] = refl
from_front kind_of zero (l ∷ ls) = refl
from_front kind_of (suc n) [] = refl
from_front kind_of (suc n) (l ∷ ls) = ap (put_first l) (from_front kind_of n ls)

abbrev taken : {A : Type 0} → (A → LineKind) → A → List A → ℕ
taken kind_of l ls = taken_len (kind_of l) (inner_len (map kind_of ls))

pub units_front : {A : Type 0} (kind_of : A → LineKind) (l : A) (ls : List A)
    → units kind_of (l ∷ ls) ≡ (l ∷ take (taken kind_of l ls) ls) ∷ units kind_of (drop (taken kind_of l ls) ls)
units_front kind_of l ls = ap (put_first l) (from_front kind_of (taken kind_of l ls) ls)

inner_within : (ks : List LineKind) → inner_len ks ≤ length ks
unfolding inner_len
inner_within ks = omega arith

pub taken_within : (k : LineKind) (ks : List LineKind) → taken_len k (inner_len ks) ≤ length ks
taken_within line.TableOpen ks = inner_within ks
taken_within line.Blank ks = omega arith
taken_within line.TableEnd ks = omega arith
taken_within line.Caption ks = omega arith
taken_within line.Row ks = omega arith
taken_within line.Cell ks = omega arith
taken_within line.Header ks = omega arith
taken_within line.Heading ks = omega arith
taken_within line.Rule ks = omega arith
taken_within line.List ks = omega arith
taken_within line.Pre ks = omega arith
taken_within line.Text ks = omega arith

-- ---- rows before the first unit that begins a part

pub plain_from : (n : ℕ) (ks : List LineKind) → n ≤ length ks → plain_count n ks ≡ n + plain_count 0 (drop n ks)
plain_from zero ks h = omega arith
plain_from (suc n) [] h = absurd (omega arith)
plain_from (suc n) (k ∷ ks) h = let e = plain_from n ks (omega arith) in omega (arith, e)

within_by : (t : Bool) (n m : ℕ) → n ≤ m → (if t then 0 else suc n) ≤ suc m
within_by true n m h = omega arith
within_by false n m h = omega arith

pub plain_within : (n : ℕ) (ks : List LineKind) → plain_count n ks ≤ length ks
plain_within n [] = omega arith
plain_within (suc n) (k ∷ ks) = let h = plain_within n ks in omega (arith, h)
plain_within zero (k ∷ ks) = within_by (begins_part k) (plain_count (taken_len k (inner_len ks)) ks) (length ks) (plain_within (taken_len k (inner_len ks)) ks)

pub take_join : {A : Type 0} (n m : ℕ) (xs : List A) → take (n + m) xs ≡ take n xs ++ take m (drop n xs)
take_join zero m xs = let e : 0 + m ≡ m = omega arith in ap (λ k. take k xs) e
take_join (suc n) m [] = take_all (suc n + m) [] (omega arith) ∙ sym (take_all m [] (omega arith))
take_join (suc n) m (x ∷ xs) =
    let e : suc n + m ≡ suc (n + m) = omega arith in
    ap (λ k. take k (x ∷ xs)) e ∙ ap (λ ys. x ∷ ys) (take_join n m xs)

-- these units, the first of which begin no part, are so many rows
pub record ArePlain {A : Type 0} (kind_of : A → LineKind) (us : List (List A)) (n : ℕ) (ls : List A) : Type 0 where
  pub front : joined (take (plain_len kind_of us) us) ≡ take n ls
  pub back : drop (plain_len kind_of us) us ≡ units kind_of (drop n ls)

abbrev plain_rows : {A : Type 0} → (A → LineKind) → List A → ℕ
plain_rows kind_of ls = plain_count 0 (map kind_of ls)

plain_front : {A : Type 0} (kind_of : A → LineKind) (t : Bool) (p : ℕ) (l : A) (ls : List A) (us : List (List A))
    → ArePlain kind_of us p (drop (taken kind_of l ls) ls)
    → joined (take (cond (not t) (1 + plain_len kind_of us) 0) ((l ∷ take (taken kind_of l ls) ls) ∷ us))
    ≡ take (if t then 0 else suc (taken kind_of l ls + p)) (l ∷ ls)
plain_front kind_of true p l ls us h = refl
plain_front kind_of false p l ls us h =
    let n = taken kind_of l ls in
    ap (λ m. joined (take m ((l ∷ take n ls) ∷ us))) (one_more (plain_len kind_of us))
    ∙ ap (λ ys. l ∷ ys) (ap (λ zs. take n ls ++ zs) h.front ∙ sym (take_join n p ls))

plain_back : {A : Type 0} (kind_of : A → LineKind) (t : Bool) (p : ℕ) (l : A) (ls : List A) (us : List (List A))
    → us ≡ units kind_of (drop (taken kind_of l ls) ls)
    → ArePlain kind_of us p (drop (taken kind_of l ls) ls)
    → drop (cond (not t) (1 + plain_len kind_of us) 0) ((l ∷ take (taken kind_of l ls) ls) ∷ us)
    ≡ units kind_of (drop (if t then 0 else suc (taken kind_of l ls + p)) (l ∷ ls))
plain_back kind_of true p l ls us e h = ap (λ vs. (l ∷ take (taken kind_of l ls) ls) ∷ vs) e ∙ sym (units_front kind_of l ls)
plain_back kind_of false p l ls us e h =
    ap (λ m. drop m ((l ∷ take (taken kind_of l ls) ls) ∷ us)) (one_more (plain_len kind_of us)) ∙ h.back
    ∙ ap (units kind_of) (drop-drop p (taken kind_of l ls) ls)

plain_count_is : {A : Type 0} (kind_of : A → LineKind) (l : A) (ls : List A)
    → plain_count (taken kind_of l ls) (map kind_of ls) ≡ taken kind_of l ls + plain_rows kind_of (drop (taken kind_of l ls) ls)
plain_count_is kind_of l ls =
    let n = taken kind_of l ls in
    plain_from n (map kind_of ls) (taken_within (kind_of l) (map kind_of ls)) ∙ ap (λ ks. n + plain_count 0 ks) (drop-map kind_of n ls)

plain_by : {A : Type 0} (kind_of : A → LineKind) (fuel : ℕ) (ls : List A) → length ls ≤ fuel → ArePlain kind_of (units kind_of ls) (plain_rows kind_of ls) ls
plain_by kind_of fuel [] h = record { front = refl; back = refl }
plain_by kind_of zero (l ∷ ls) h = absurd (omega arith)
plain_by kind_of (suc fuel) (l ∷ ls) h =
    let n = taken kind_of l ls in
    let us = units kind_of (drop n ls) in
    let p = plain_rows kind_of (drop n ls) in
    let t = begins_part (kind_of l) in
    let more : ArePlain kind_of us p (drop n ls) = plain_by kind_of fuel (drop n ls) (omega (arith, h, length-drop n ls)) in
    let count : plain_rows kind_of (l ∷ ls) ≡ (if t then 0 else suc (n + p)) = ap (λ m. if t then 0 else suc m) (plain_count_is kind_of l ls) in
    record {
      front = ap (λ vs. joined (take (plain_len kind_of vs) vs)) (units_front kind_of l ls) ∙ plain_front kind_of t p l ls us more
          ∙ ap (λ m. take m (l ∷ ls)) (sym count);
      back = ap (λ vs. drop (plain_len kind_of vs) vs) (units_front kind_of l ls) ∙ plain_back kind_of t p l ls us refl more
          ∙ ap (λ m. units kind_of (drop m (l ∷ ls))) (sym count);
    }

pub plain_are : {A : Type 0} (kind_of : A → LineKind) (ls : List A) → ArePlain kind_of (units kind_of ls) (plain_rows kind_of ls) ls
plain_are kind_of ls = plain_by kind_of (length ls) ls (omega arith)

-- ---- groups

abbrev pub group_len : {A : Type 0} → (A → LineKind) → A → List A → ℕ
group_len kind_of l ls = suc (taken kind_of l ls + plain_rows kind_of (drop (taken kind_of l ls) ls))

groups_front : {A : Type 0} (kind_of : A → LineKind) (l : A) (ls : List A)
    → groups kind_of (units kind_of (l ∷ ls))
    ≡ ((l ∷ take (taken kind_of l ls) ls) ∷ take (plain_len kind_of (units kind_of (drop (taken kind_of l ls) ls)))
    (units kind_of (drop (taken kind_of l ls) ls)))
    ∷ groups kind_of (units kind_of (drop (group_len kind_of l ls) (l ∷ ls)))
groups_front kind_of l ls =
    let n = taken kind_of l ls in
    let us = units kind_of (drop n ls) in
    let u = l ∷ take n ls in
    let p = plain_rows kind_of (drop n ls) in
    ap (groups kind_of) (units_front kind_of l ls)
    ∙ runs_front (λ v. not (begins_group kind_of v)) u us
    ∙ ap (λ vs. (u ∷ take (plain_len kind_of us) us) ∷ groups kind_of vs) ((plain_are kind_of (drop n ls)).back
    ∙ ap (units kind_of) (drop-drop p n ls))

pub group_front : {A : Type 0} (kind_of : A → LineKind) (l : A) (ls : List A)
    → group_rows kind_of (l ∷ ls) ≡ take (group_len kind_of l ls) (l ∷ ls) ∷ group_rows kind_of (drop (group_len kind_of l ls) (l ∷ ls))
group_front kind_of l ls =
    let n = taken kind_of l ls in
    let p = plain_rows kind_of (drop n ls) in
    ap (map joined) (groups_front kind_of l ls)
    ∙ ap (λ ys. (l ∷ ys) ∷ group_rows kind_of (drop (group_len kind_of l ls) (l ∷ ls)))
    (ap (λ zs. take n ls ++ zs) (plain_are kind_of (drop n ls)).front ∙ sym (take_join n p ls))

-- the kind of a group is that of its first row
abbrev pub AreFirst : {A : Type 0} → (A → LineKind) → List (List (List A)) → Type 0
AreFirst kind_of gs = AllByRecursion (λ g. group_kind kind_of g ≡ unit_kind kind_of (joined g)) gs

first_by : {A : Type 0} (kind_of : A → LineKind) (fuel : ℕ) (ls : List A) → length ls ≤ fuel → AreFirst kind_of (groups kind_of (units kind_of ls))
first_by kind_of fuel [] h = tt
first_by kind_of zero (l ∷ ls) h = absurd (omega arith)
first_by kind_of (suc fuel) (l ∷ ls) h =
    let g = group_len kind_of l ls in
    subst (AreFirst kind_of) (sym (groups_front kind_of l ls)) (refl, first_by kind_of fuel (drop g (l ∷ ls)) (omega (arith, h, length-drop g (l ∷ ls))))

pub first_are : {A : Type 0} (kind_of : A → LineKind) (ls : List A) → AreFirst kind_of (groups kind_of (units kind_of ls))
first_are kind_of ls = first_by kind_of (length ls) ls (omega arith)

pub first_rest : {A : Type 0} (kind_of : A → LineKind) (n : ℕ) (gs : List (List (List A))) → AreFirst kind_of gs → AreFirst kind_of (drop n gs)
first_rest kind_of zero gs h = h
first_rest kind_of (suc n) [] h = tt
first_rest kind_of (suc n) (g ∷ gs) h = first_rest kind_of n gs h.1

pub count_same : {A : Type 0} (kind_of : A → LineKind) (test : LineKind → Bool) (gs : List (List (List A))) → AreFirst kind_of gs
    → prefix_len (λ g. test (group_kind kind_of g)) gs ≡ prefix_len (λ r. test (unit_kind kind_of r)) (map joined gs)
count_same kind_of test [] h = refl
count_same kind_of test (g ∷ gs) h =
    ap (λ k. cond (test k) (1 + prefix_len (λ f. test (group_kind kind_of f)) gs) 0) h.0
    ∙ ap (λ m. cond (test (unit_kind kind_of (joined g))) (1 + m) 0) (count_same kind_of test gs h.1)
