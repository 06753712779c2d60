-- What is so of each of the first members, one by one.
use Rattle.std.proofs.Common.{◌≡◌, ℕ, ◌+◌, ◌<◌, List, get_or, length, sym, ◌∙◌, subst, inl, inr, arith}
use Rattle.std.proofs.lemmas.Bool.{cases_lt}
use Rattle.std.proofs.lemmas.List.{get_or_default}

abbrev pub First : {X : Type 0} → (X → Type 0) → List X → ℕ → Type 0
First {X} P xs i = (k : ℕ) (d : X) → k < i → P (get_or xs k d)

pub one_more : {X : Type 0} (P : X → Type 0) (xs : List X) (i : ℕ) (x : X) → First P xs i → i < length xs → x ≡ get_or xs i x → P x → First P xs (i + 1)
one_more P xs i x h within is p k d below = elim (cases_lt k i) [
  | inl before ↦ h k d before
  | inr here ↦
      let same : k ≡ i = omega arith in
      let read : get_or xs i d ≡ x = get_or_default xs i d x within ∙ sym is in
      subst (λ n. P (get_or xs n d)) (sym same) (subst P (sym read) p)
]
