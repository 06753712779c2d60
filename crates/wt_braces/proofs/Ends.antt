-- The last members of lists that are read from the last one on.
use Rattle.std.proofs.Common.{◌≡◌, ℕ, zero, suc, ◌+◌, ◌-◌, Some, None, List, [], ◌∷◌, ◌++◌, length, take, drop, map, reverse, refl, sym, ap, ◌∙◌, arith}
use Rattle.std.specs.Prelude.{slice_get}
use Rattle.std.proofs.lemmas.List.{map-append, reverse-append}
use Rattle.wt_braces.specs.declared.matching.Closed.{Closed}
use Rattle.wt_braces.specs.Views.{closed_at}
use Rattle.wt_braces.specs.declared.matching.OpenRun.{OpenRun}
use Rattle.wt_braces.specs.Nested.{first_of}
use Rattle.wt_braces.specs.Matched.{links_before}

pub rev_push : {A B : Type 0} → (f : A → B) (xs : List A) (x : A) → reverse (map f (xs ++ x ∷ [])) ≡ f x ∷ reverse (map f xs)
rev_push f xs x = ap reverse (map-append f xs (x ∷ [])) ∙ reverse-append (map f xs) (f x ∷ [])

pub take_map : {A B : Type 0} → (f : A → B) (n : ℕ) (xs : List A) → map f (take n xs) ≡ take n (map f xs)
take_map f zero [] = refl
take_map f zero (x ∷ xs) = refl
take_map f (suc n) [] = refl
take_map f (suc n) (x ∷ xs) = ap (λ ys. f x ∷ ys) (take_map f n xs)

pub drop_map : {A B : Type 0} → (f : A → B) (n : ℕ) (xs : List A) → map f (drop n xs) ≡ drop n (map f xs)
drop_map f zero [] = refl
drop_map f zero (x ∷ xs) = refl
drop_map f (suc n) [] = refl
drop_map f (suc n) (x ∷ xs) = drop_map f n xs

pub reverse_push : {A : Type 0} → (xs : List A) (x : A) → reverse (xs ++ x ∷ []) ≡ x ∷ reverse xs
reverse_push xs x = reverse-append xs (x ∷ [])

pub map_reverse : {A B : Type 0} → (f : A → B) (xs : List A) → map f (reverse xs) ≡ reverse (map f xs)
map_reverse f [] = refl
map_reverse f (x ∷ xs) =
    ap (map f) (reverse-append (x ∷ []) xs) ∙ map-append f (reverse xs) (x ∷ []) ∙ ap (λ ys. ys ++ f x ∷ []) (map_reverse f xs)
    ∙ sym (reverse-append (f x ∷ []) (map f xs))

last_is : {A : Type 0} → (xs : List A) (n : ℕ) (x : A) → n + 1 ≡ length xs → Some x ≡ slice_get xs n → xs ≡ take n xs ++ x ∷ []
last_is [] n x e h = absurd (omega (arith, e))
last_is (y ∷ []) zero x e h = let same : y ≡ x = cc in ap (λ z. z ∷ []) same
last_is (y ∷ z ∷ xs) zero x e h = absurd (omega (arith, e))
last_is (y ∷ xs) (suc n) x e h = ap (λ ys. y ∷ ys) (last_is xs n x (omega (arith, e)) h)

pub first_last : (xs : List Closed) (x : Closed) → Some x ≡ slice_get xs (length xs - 1) → first_of (reverse (map closed_at xs)) ≡ Some x.first
first_last [] x h = absurd cc
first_last (y ∷ ys) x h =
    let n : ℕ = length (y ∷ ys) - 1 in
    let e : n + 1 ≡ length (y ∷ ys) = omega arith in
    let is = last_is (y ∷ ys) n x e h in
    ap (λ zs. first_of (reverse (map closed_at zs))) is ∙ ap first_of (rev_push closed_at (take n (y ∷ ys)) x)

pub run_last : (xs : List OpenRun) (x : OpenRun) → Some x ≡ slice_get xs (length xs - 1) → links_before (reverse xs) ≡ x.links
run_last [] x h = absurd cc
run_last (y ∷ ys) x h =
    let n : ℕ = length (y ∷ ys) - 1 in
    let e : n + 1 ≡ length (y ∷ ys) = omega arith in
    let is = last_is (y ∷ ys) n x e h in
    ap (λ zs. links_before (reverse zs)) is ∙ ap links_before (reverse_push (take n (y ∷ ys)) x)

last_there : {A : Type 0} → (xs : List A) (n : ℕ) → n + 1 ≡ length xs → None ≡ slice_get xs n → ⊥
last_there [] n e h = omega (arith, e)
last_there (x ∷ xs) zero e h = cc
last_there (x ∷ xs) (suc n) e h = last_there xs n (omega (arith, e)) h

pub run_none : (xs : List OpenRun) → None ≡ slice_get xs (length xs - 1) → links_before (reverse xs) ≡ 0
run_none [] h = refl
run_none (y ∷ ys) h = absurd (last_there (y ∷ ys) (length (y ∷ ys) - 1) (omega arith) h)

pub first_none : (xs : List Closed) → None ≡ slice_get xs (length xs - 1) → first_of (reverse (map closed_at xs)) ≡ None
first_none [] h = refl
first_none (y ∷ ys) h = absurd (last_there (y ∷ ys) (length (y ∷ ys) - 1) (omega arith) h)
