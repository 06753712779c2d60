-- The first run of a list, told by neighbours.
use Rattle.std.proofs.Common.{◌≡◌, ℕ, zero, suc, ◌+◌, ◌-◌, ◌<◌, ◌≤◌, Bool, true, false, List, [], ◌∷◌, length, get_or, take, drop, subst, refl, sym, ap, ◌∙◌, arith}
use Rattle.std.proofs.lemmas.List.{get_or_default}
use Rattle.wt_span.specs.Runs.{IsRun}

pub front_by : {A : Type 0} (joins : A → A → Bool) (xs : List A) (n : ℕ) (d : A) → 0 < n → n ≤ length xs
    → ((k : ℕ) → suc k < n → joins (get_or xs k d) (get_or xs (suc k) d) ≡ true)
    → ((m : ℕ) → suc m ≡ n → n < length xs → joins (get_or xs m d) (get_or xs (suc m) d) ≡ false) → IsRun joins (take n xs) (drop n xs)
front_by joins xs zero d s w j e = absurd (omega arith)
front_by joins [] (suc n) d s w j e = absurd (omega arith)
front_by joins (x ∷ []) (suc zero) d s w j e = tt
front_by joins (x ∷ y ∷ ys) (suc zero) d s w j e = e 0 refl (omega arith)
front_by joins (x ∷ []) (suc (suc n)) d s w j e = absurd (omega arith)
front_by joins (x ∷ y ∷ ys) (suc (suc n)) d s w j e = (
  j 0 (omega arith),
  front_by joins (y ∷ ys) (suc n) d (omega arith) (omega arith) (λ k h. j (suc k) (omega arith))
      (λ m q h. e (suc m) (ap suc q) (omega arith)),
)

next : {A : Type 0} (joins : A → A → Bool) (xs : List A) (d : A) (v : Bool) (k : ℕ) → joins (get_or xs k d) (get_or xs (k + 1) d)
    ≡ v → joins (get_or xs k d) (get_or xs (suc k) d) ≡ v
next joins xs d v k h =
    let e : k + 1 ≡ suc k = omega arith in
    subst (λ (q : ℕ). joins (get_or xs k d) (get_or xs q d) ≡ v) e h

-- it ends where two neighbours don't join
pub front_at : {A : Type 0} (joins : A → A → Bool) (xs : List A) (i : ℕ) (d : A) → i + 1 < length xs
    → ((k : ℕ) → k < i → joins (get_or xs k d) (get_or xs (k + 1) d) ≡ true)
    → joins (get_or xs i d) (get_or xs (i + 1) d) ≡ false → IsRun joins (take (i + 1) xs) (drop (i + 1) xs)
front_at joins xs i d w j e =
    front_by joins xs (i + 1) d (omega arith) (omega arith) (λ k h. next joins xs d true k (j k (omega arith)))
    (λ m q h. let z : i ≡ m = omega arith in subst (λ (n : ℕ). joins (get_or xs n d) (get_or xs (suc n) d) ≡ false) z (next joins xs d false i e))

-- or with the list
pub front_all : {A : Type 0} (joins : A → A → Bool) (xs : List A) (d : A) → 0 < length xs
    → ((k : ℕ) → k < length xs - 1 → joins (get_or xs k d) (get_or xs (k + 1) d) ≡ true)
    → IsRun joins (take (length xs) xs) (drop (length xs) xs)
front_all joins xs d s j =
    front_by joins xs (length xs) d s (omega arith) (λ k h. next joins xs d true k (j k (omega arith))) (λ m q h. absurd (omega arith))

-- what was read at a place
pub read_as : {A : Type 0} (xs : List A) (i : ℕ) (x d : A) → i < length xs → x ≡ get_or xs i x → get_or xs i d ≡ x
read_as xs i x d l e = get_or_default xs i d x l ∙ sym e
