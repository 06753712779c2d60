-- Fronts and rests of joined lists, which std has only under a premise on lengths.
use Rattle.std.proofs.Common.{◌≡◌, ℕ, zero, suc, ◌-◌, List, [], ◌∷◌, ◌++◌, length, take, drop, refl, sym, ap, ◌∙◌, arith}

pub take_append : {A : Type 0} → (n : ℕ) (xs ys : List A) → take n (xs ++ ys) ≡ take n xs ++ take (n - length xs) ys
take_append zero [] ys = refl
take_append zero (x ∷ xs) ys = let e : 0 - suc (length xs) ≡ 0 = omega arith in ap (λ m. take m ys) (sym e)
take_append (suc n) [] ys = let e : suc n - 0 ≡ suc n = omega arith in ap (λ m. take m ys) (sym e)
take_append (suc n) (x ∷ xs) ys =
    let e : suc n - suc (length xs) ≡ n - length xs = omega arith in
    ap (λ zs. x ∷ zs) (take_append n xs ys) ∙ ap (λ m. x ∷ (take n xs ++ take m ys)) (sym e)

pub drop_append : {A : Type 0} → (n : ℕ) (xs ys : List A) → drop n (xs ++ ys) ≡ drop n xs ++ drop (n - length xs) ys
drop_append zero [] ys = refl
drop_append zero (x ∷ xs) ys = let e : 0 - suc (length xs) ≡ 0 = omega arith in ap (λ m. x ∷ (xs ++ drop m ys)) (sym e)
drop_append (suc n) [] ys = let e : suc n - 0 ≡ suc n = omega arith in ap (λ m. drop m ys) (sym e)
drop_append (suc n) (x ∷ xs) ys =
    let e : suc n - suc (length xs) ≡ n - length xs = omega arith in
    drop_append n xs ys ∙ ap (λ m. drop n xs ++ drop m ys) (sym e)
