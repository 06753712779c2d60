-- Whether one list is left of another where some members are left out, found from left to right.
use Rattle.std.proofs.Common.{arith, ◌≡◌, ◌<◌, ◌≤◌, ℕ, zero, suc, ◌+◌, true, List, [], ◌∷◌, length, drop, get_or, refl, sym, ap, ◌∙◌, subst, inl, inr}
use Rattle.std.specs.Prelude.{◌↔◌, ◌==◌}
use Rattle.std.specs.Bool.{Decides}
use Rattle.std.proofs.lemmas.Bool.Decides.{nat_tests}
use Rattle.std.proofs.lemmas.List.{drop_more, drop_all}
use Rattle.wt_visible.specs.KeptMarks.{IsWithin}

one_more : (xs : List (List ℕ)) (y : List ℕ) (ys : List (List ℕ)) → IsWithin xs ys → IsWithin xs (y ∷ ys)
one_more [] y ys h = tt
one_more (x ∷ xs) y ys h = inr h

without_first : (x : List ℕ) (xs ys : List (List ℕ)) → IsWithin (x ∷ xs) ys → IsWithin xs ys
without_first x xs [] h = absurd h
without_first x xs (y ∷ ys) (inl h) = one_more xs y ys h.1
without_first x xs (y ∷ ys) (inr h) = one_more xs y ys (without_first x xs ys h)

-- the first one is found: the rest decides
first_found : (x y : List ℕ) (xs ys : List (List ℕ)) → x ≡ y → IsWithin (x ∷ xs) (y ∷ ys) ↔ IsWithin xs ys
first_found x y xs ys e = (there, λ h. inl (e, h))
  where
    there : IsWithin (x ∷ xs) (y ∷ ys) → IsWithin xs ys
    there (inl h) = h.1
    there (inr h) = without_first x xs ys h

-- it isn't: it has to stand behind
first_other : (x y : List ℕ) (xs ys : List (List ℕ)) → (x ≡ y → ⊥) → IsWithin (x ∷ xs) (y ∷ ys) ↔ IsWithin (x ∷ xs) ys
first_other x y xs ys n = (there, λ h. inr h)
  where
    there : IsWithin (x ∷ xs) (y ∷ ys) → IsWithin (x ∷ xs) ys
    there (inl h) = absurd (n h.0)
    there (inr h) = h

-- ---- from a place on

abbrev pub Same : List (List ℕ) → List (List ℕ) → List (List ℕ) → List (List ℕ) → Type 0
Same xs ys us vs = IsWithin xs ys ↔ IsWithin us vs

same_by : (xs us vs zs : List (List ℕ)) (y : List ℕ) (ws : List (List ℕ)) → xs ≡ us → vs ≡ zs → Same us (y ∷ ws) zs ws → Same xs (y ∷ ws) vs ws
same_by xs us vs zs y ws e f h = (
  λ k. subst (λ (r : List (List ℕ)). IsWithin r ws) (sym f) (h.0 (subst (λ (r : List (List ℕ)). IsWithin r (y ∷ ws)) e k)),
  λ k. subst (λ (r : List (List ℕ)). IsWithin r (y ∷ ws)) (sym e) (h.1 (subst (λ (r : List (List ℕ)). IsWithin r ws) f k)),
)

-- none is left to be found
pub all_found : (xs : List (List ℕ)) (n : ℕ) (y : List ℕ) (ys : List (List ℕ)) → length xs ≤ n → Same (drop n xs) (y ∷ ys) (drop n xs) ys
all_found xs n y ys le =
    let e : drop n xs ≡ [] = drop_all n xs le in
    same_by (drop n xs) [] (drop n xs) [] y ys e e ((λ h. tt), λ h. tt)

pub next_found : (xs : List (List ℕ)) (n : ℕ) (x y : List ℕ) (ys : List (List ℕ)) → n < length xs → x ≡ get_or xs n x → x ≡ y
    → Same (drop n xs) (y ∷ ys) (drop (n + 1) xs) ys
next_found xs n x y ys lt is e =
    let d : drop n xs ≡ x ∷ drop (n + 1) xs = drop_more xs n x lt ∙ ap (λ z. z ∷ drop (n + 1) xs) (sym is) in
    same_by (drop n xs) (x ∷ drop (n + 1) xs) (drop (n + 1) xs) (drop (n + 1) xs) y ys d refl (first_found x y (drop (n + 1) xs) ys e)

pub next_other : (xs : List (List ℕ)) (n : ℕ) (x y : List ℕ) (ys : List (List ℕ)) → n < length xs → x ≡ get_or xs n x → (x ≡ y → ⊥)
    → Same (drop n xs) (y ∷ ys) (drop n xs) ys
next_other xs n x y ys lt is e =
    let d : drop n xs ≡ x ∷ drop (n + 1) xs = drop_more xs n x lt ∙ ap (λ z. z ∷ drop (n + 1) xs) (sym is) in
    same_by (drop n xs) (x ∷ drop (n + 1) xs) (drop n xs) (x ∷ drop (n + 1) xs) y ys d d (first_other x y (drop (n + 1) xs) ys e)

-- ---- one turn, and the end

pub turned : (xs ys : List (List ℕ)) (i n m : ℕ) (y : List ℕ) → i < length ys → y ≡ get_or ys i y → Same xs ys (drop n xs) (drop i ys)
    → Same (drop n xs) (y ∷ drop (i + 1) ys) (drop m xs) (drop (i + 1) ys) → Same xs ys (drop m xs) (drop (i + 1) ys)
turned xs ys i n m y lt is h k =
    let d : drop i ys ≡ y ∷ drop (i + 1) ys = drop_more ys i y lt ∙ ap (λ z. z ∷ drop (i + 1) ys) (sym is) in (
      λ w. k.0 (subst (λ (r : List (List ℕ)). IsWithin (drop n xs) r) d (h.0 w)),
      λ w. h.1 (subst (λ (r : List (List ℕ)). IsWithin (drop n xs) r) (sym d) (k.1 w)),
    )

left_none : (xs : List (List ℕ)) (n : ℕ) → n ≤ length xs → IsWithin (drop n xs) [] → n ≡ length xs
left_none [] zero le h = refl
left_none [] (suc n) le h = absurd (omega (arith, le))
left_none (x ∷ xs) zero le h = absurd h
left_none (x ∷ xs) (suc n) le h = let e = left_none xs n (omega (arith, le)) h in omega (arith, e)

pub within_decided : (xs ys : List (List ℕ)) (i n : ℕ) → length ys ≤ i → n ≤ length xs → Same xs ys (drop n xs) (drop i ys)
    → Decides (n == length xs) (IsWithin xs ys)
within_decided xs ys i n ge le h = (λ e. h.1 (all_there e), λ w. test_is (left_none xs n le (at_end (h.0 w))))
  where
    test_is : n ≡ length xs → (n == length xs) ≡ true
    test_is e = grind (arith, nat_tests)

    is_test : (n == length xs) ≡ true → length xs ≤ n
    is_test e = grind (arith, nat_tests)

    all_there : (n == length xs) ≡ true → IsWithin (drop n xs) (drop i ys)
    all_there e = subst (λ (r : List (List ℕ)). IsWithin r (drop i ys)) (sym (drop_all n xs (is_test e))) tt

    at_end : IsWithin (drop n xs) (drop i ys) → IsWithin (drop n xs) []
    at_end w = subst (λ (r : List (List ℕ)). IsWithin (drop n xs) r) (drop_all i ys ge) w
