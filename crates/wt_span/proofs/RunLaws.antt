-- Runs: the function, and the relation that it meets alone.
use Rattle.std.proofs.Common.{◌≡◌, Bool, true, false, List, [], ◌∷◌, ◌++◌, refl, sym, ap, ◌∙◌, subst, cond, append_assoc}
use Rattle.std.specs.List.{flat_map}
use Rattle.wt_span.specs.Runs.{put, runs, IsRun, AreRuns}

-- a case of a test
put_joins : {A : Type 0} (joins : A → A → Bool) (x y : A) (ys : List A) (rs : List (List A)) → joins x y ≡ true
    → put joins x ((y ∷ ys) ∷ rs) ≡ (x ∷ y ∷ ys) ∷ rs
put_joins joins x y ys rs e = rw e refl

put_parts : {A : Type 0} (joins : A → A → Bool) (x y : A) (ys : List A) (rs : List (List A)) → joins x y ≡ false
    → put joins x ((y ∷ ys) ∷ rs) ≡ (x ∷ []) ∷ (y ∷ ys) ∷ rs
put_parts joins x y ys rs e = rw e refl

apart_by : {A : Type 0} (joins : A → A → Bool) (x y z : A) (zs : List A) (rs : List (List A)) (v : Bool) → joins x y ≡ false
    → put joins x (cond v ((y ∷ z ∷ zs) ∷ rs) ((y ∷ []) ∷ (z ∷ zs) ∷ rs)) ≡ (x ∷ []) ∷ cond v ((y ∷ z ∷ zs) ∷ rs) ((y ∷ []) ∷ (z ∷ zs) ∷ rs)
apart_by joins x y z zs rs true e = put_parts joins x y (z ∷ zs) rs e
apart_by joins x y z zs rs false e = put_parts joins x y [] ((z ∷ zs) ∷ rs) e

put_apart : {A : Type 0} (joins : A → A → Bool) (x y : A) (rs : List (List A)) → joins x y ≡ false → put joins x (put joins y rs) ≡ (x ∷ []) ∷ put joins y rs
put_apart joins x y [] e = put_parts joins x y [] [] e
put_apart joins x y ([] ∷ rs) e = put_parts joins x y [] rs e
put_apart joins x y ((z ∷ zs) ∷ rs) e = apart_by joins x y z zs rs (joins y z) e

-- a run stands before the runs of the others
pub runs_cut : {A : Type 0} (joins : A → A → Bool) (r others : List A) → IsRun joins r others → runs joins (r ++ others) ≡ r ∷ runs joins others
runs_cut joins [] others h = absurd h
runs_cut joins (x ∷ []) [] h = refl
runs_cut joins (x ∷ []) (y ∷ others) h = put_apart joins x y (runs joins others) h
runs_cut joins (x ∷ y ∷ ys) others h = ap (put joins x) (runs_cut joins (y ∷ ys) others h.1) ∙ put_joins joins x y ys (runs joins others) h.0

-- one more before a list
put_by : {A : Type 0} (joins : A → A → Bool) (x y : A) (ys : List A) (rs : List (List A)) (others : List A) (v : Bool)
    → joins x y ≡ v → IsRun joins (y ∷ ys) others → AreRuns joins rs others
    → AreRuns joins (cond v ((x ∷ y ∷ ys) ∷ rs) ((x ∷ []) ∷ (y ∷ ys) ∷ rs)) (x ∷ y ∷ ys ++ others)
put_by joins x y ys rs others true e run rest = (others, refl, (e, run), rest)
put_by joins x y ys rs others false e run rest = (y ∷ ys ++ others, refl, e, (others, refl, run, rest))

put_are : {A : Type 0} (joins : A → A → Bool) (x : A) (rs : List (List A)) (xs : List A) → AreRuns joins rs xs → AreRuns joins (put joins x rs) (x ∷ xs)
put_are joins x [] xs h = ([], ap (λ ys. x ∷ ys) h, tt, refl)
put_are joins x ([] ∷ rs) xs h = absurd h.2
put_are {A} joins x ((y ∷ ys) ∷ rs) xs h =
    let P : List A → Type 0 = λ zs. AreRuns joins (put joins x ((y ∷ ys) ∷ rs)) (x ∷ zs) in
    subst P (sym h.1) (put_by joins x y ys rs h.0 (joins x y) refl h.2 h.3)

pub runs_are : {A : Type 0} (joins : A → A → Bool) (xs : List A) → AreRuns joins (runs joins xs) xs
runs_are joins [] = refl
runs_are joins (x ∷ xs) = put_are joins x (runs joins xs) xs (runs_are joins xs)

pub runs_only : {A : Type 0} (joins : A → A → Bool) (rs : List (List A)) (xs : List A) → AreRuns joins rs xs → rs ≡ runs joins xs
runs_only joins [] xs h = sym (ap (runs joins) h)
runs_only joins (r ∷ rs) xs h = ap (λ ss. r ∷ ss) (runs_only joins rs h.0 h.3) ∙ sym (ap (runs joins) h.1 ∙ runs_cut joins r h.0 h.2)

pub are_joined : {A : Type 0} (joins : A → A → Bool) (rs : List (List A)) (xs : List A) → AreRuns joins rs xs → flat_map (λ r. r) rs ≡ xs
are_joined joins [] xs h = sym h
are_joined joins (r ∷ rs) xs h = ap (λ ys. r ++ ys) (are_joined joins rs h.0 h.3) ∙ sym h.1

pub runs_joined : {A : Type 0} (joins : A → A → Bool) (xs : List A) → flat_map (λ r. r) (runs joins xs) ≡ xs
runs_joined joins xs = are_joined joins (runs joins xs) xs (runs_are joins xs)

-- what joins with nothing is a run by itself
run_before : {A : Type 0} (joins : A → A → Bool) (n : A) (r others ys : List A) → ((x : A) → joins x n ≡ false)
    → IsRun joins r others → IsRun joins r (others ++ n ∷ ys)
run_before joins n [] others ys h r = absurd r
run_before joins n (x ∷ []) [] ys h r = h x
run_before joins n (x ∷ []) (y ∷ others) ys h r = r
run_before joins n (x ∷ z ∷ zs) others ys h r = (r.0, run_before joins n (z ∷ zs) others ys h r.1)

run_alone : {A : Type 0} (joins : A → A → Bool) (n : A) (ys : List A) → ((y : A) → joins n y ≡ false) → IsRun joins (n ∷ []) ys
run_alone joins n [] h = tt
run_alone joins n (y ∷ ys) h = h y

are_alone : {A : Type 0} (joins : A → A → Bool) (n : A) (rs : List (List A)) (xs ys : List A) → ((x : A) → joins x n ≡ false)
    → ((y : A) → joins n y ≡ false) → AreRuns joins rs xs
    → AreRuns joins (rs ++ (n ∷ []) ∷ runs joins ys) (xs ++ n ∷ ys)
are_alone joins n [] xs ys h g r = (ys, ap (λ zs. zs ++ n ∷ ys) r, run_alone joins n ys g, runs_are joins ys)
are_alone joins n (s ∷ rs) xs ys h g r =
    (r.0 ++ n ∷ ys, ap (λ zs. zs ++ n ∷ ys) r.1 ∙ append_assoc s r.0 (n ∷ ys), run_before joins n s r.0 ys h r.2, are_alone joins n rs r.0 ys h g r.3)

pub runs_alone : {A : Type 0} (joins : A → A → Bool) (n : A) (xs ys : List A) → ((x : A) → joins x n ≡ false) → ((y : A) → joins n y ≡ false)
    → runs joins (xs ++ n ∷ ys) ≡ runs joins xs ++ (n ∷ []) ∷ runs joins ys
runs_alone joins n xs ys h g = sym (runs_only joins (runs joins xs ++ (n ∷ []) ∷ runs joins ys) (xs ++ n ∷ ys)
    (are_alone joins n (runs joins xs) xs ys h g (runs_are joins xs)))
