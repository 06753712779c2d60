-- Slices of a page, joined and parted.
use Rattle.std.proofs.Common.{◌≡◌, ℕ, zero, suc, ◌-◌, ◌≤◌, List, [], ◌∷◌, ◌++◌, length, take, drop, refl, sym, ap, ◌∙◌, arith, length-take, length-drop}
use Rattle.wt_annotated.specs.Slices.{slice}

take_front : (xs ys : List ℕ) → take (length xs) (xs ++ ys) ≡ xs
take_front [] ys = refl
take_front (x ∷ xs) ys = ap (λ zs. x ∷ zs) (take_front xs ys)

drop_behind : (xs ys : List ℕ) → drop (length xs) (xs ++ ys) ≡ ys
drop_behind [] ys = refl
drop_behind (x ∷ xs) ys = drop_behind xs ys

drop_front : (k : ℕ) (xs ys : List ℕ) → k ≤ length xs → drop k (xs ++ ys) ≡ drop k xs ++ ys
drop_front zero [] ys l = refl
drop_front zero (x ∷ xs) ys l = refl
drop_front (suc k) [] ys l = absurd (omega (arith, l))
drop_front (suc k) (x ∷ xs) ys l = drop_front k xs ys (omega (arith, l))

take_two : (b c : ℕ) (xs : List ℕ) → b ≤ c → take c xs ≡ take b xs ++ drop b (take c xs)
take_two zero zero [] l = refl
take_two zero zero (x ∷ xs) l = refl
take_two zero (suc c) [] l = refl
take_two zero (suc c) (x ∷ xs) l = refl
take_two (suc b) zero xs l = absurd (omega (arith, l))
take_two (suc b) (suc c) [] l = refl
take_two (suc b) (suc c) (x ∷ xs) l = ap (λ ys. x ∷ ys) (take_two b c xs (omega (arith, l)))

pub slice_length : (page : List ℕ) (a b : ℕ) → a ≤ b → b ≤ length page → length (slice page a b) ≡ b - a
slice_length page a b l w = omega (arith, l, w, length-drop a (take b page), length-take b page)

pub slice_join : (page : List ℕ) (a b c : ℕ) → a ≤ b → b ≤ c → c ≤ length page → slice page a c ≡ slice page a b ++ slice page b c
slice_join page a b c l m w =
    let s : a ≤ length (take b page) = omega (arith, l, m, w, length-take b page) in
    ap (drop a) (take_two b c page m) ∙ drop_front a (take b page) (drop b (take c page)) s

-- lists that join to one list are the same, where the first of each are as long
pub same_halves : (xs ys us vs : List ℕ) → xs ++ ys ≡ us ++ vs → length xs ≡ length us → (xs ≡ us) × (ys ≡ vs)
same_halves xs ys us vs e l = (
  sym (take_front xs ys) ∙ ap (λ n. take n (xs ++ ys)) l ∙ ap (take (length us)) e ∙ take_front us vs,
  sym (drop_behind xs ys) ∙ ap (λ n. drop n (xs ++ ys)) l ∙ ap (drop (length us)) e ∙ drop_behind us vs,
)
