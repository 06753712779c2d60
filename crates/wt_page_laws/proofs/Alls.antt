-- What holds of all members, of parts of a list.
use Rattle.std.proofs.Common.{ℕ, zero, suc, List, [], ◌∷◌, ◌++◌, take, drop, map}
use Rattle.std.specs.List.{AllByRecursion, flat_map}

pub all_both : {A : Type 0} (P : A → Type 0) (xs ys : List A) → AllByRecursion P xs → AllByRecursion P ys → AllByRecursion P (xs ++ ys)
all_both P [] ys f g = g
all_both P (x ∷ xs) ys f g = (f.0, all_both P xs ys f.1 g)

pub all_taken : {A : Type 0} (P : A → Type 0) (n : ℕ) (xs : List A) → AllByRecursion P xs → AllByRecursion P (take n xs)
all_taken P zero xs f = tt
all_taken P (suc n) [] f = tt
all_taken P (suc n) (x ∷ xs) f = (f.0, all_taken P n xs f.1)

pub all_dropped : {A : Type 0} (P : A → Type 0) (n : ℕ) (xs : List A) → AllByRecursion P xs → AllByRecursion P (drop n xs)
all_dropped P zero xs f = f
all_dropped P (suc n) [] f = tt
all_dropped P (suc n) (x ∷ xs) f = all_dropped P n xs f.1

pub all_mapped : {A B : Type 0} (P : B → Type 0) (f : A → B) → ((x : A) → P (f x)) → (xs : List A) → AllByRecursion P (map f xs)
all_mapped P f h [] = tt
all_mapped P f h (x ∷ xs) = (h x, all_mapped P f h xs)

pub all_flat : {A B : Type 0} (P : B → Type 0) (f : A → List B) → ((x : A) → AllByRecursion P (f x)) → (xs : List A)
    → AllByRecursion P (flat_map f xs)
all_flat P f h [] = tt
all_flat P f h (x ∷ xs) = all_both P (f x) (flat_map f xs) (h x) (all_flat P f h xs)
