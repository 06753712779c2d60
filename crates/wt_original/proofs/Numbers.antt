-- Where numbers count up, a node stands at its number.
use Rattle.std.proofs.Common.{arith, ◌≡◌, ◌≢◌, ℕ, suc, ◌+◌, ◌-◌, ◌<◌, ◌≤◌, Bool, true, false, List, [], ◌∷◌, refl, sym, ap, ◌∙◌, Some, None, inl, inr}
use Rattle.std.specs.Prelude.{◌&&◌, ◌==◌, slice_get, if◌then◌else◌}
use Rattle.std.proofs.lemmas.Bool.{cases_lt, eq-eqb}
use Rattle.std.proofs.lemmas.Bool.Decides.{Decides-eqb}
use Rattle.wt_names.proofs.Cuts.{differs}
use Rattle.wt_tree.specs.Tree.{label}
use Rattle.wt_original.specs.Kept.{Kept, first_with}
use Rattle.wt_original.specs.Numbers.{counts_up}

both_true : (a b : Bool) → (a && b) ≡ true → (a ≡ true) × (b ≡ true)
both_true true true e = (refl, refl)
both_true true false e = cc
both_true false b e = cc

pub first_is : (n : ℕ) (k : Kept) (ks : List Kept) → counts_up n (k ∷ ks) ≡ true → ((label k.node).id ≡ n) × (counts_up (n + 1) ks ≡ true)
first_is n k ks e =
    let h = both_true ((label k.node).id == n) (counts_up (n + 1) ks) e in
    ((Decides-eqb (label k.node).id n).0 h.0, h.1)

pub pass : (m : ℕ) (k : Kept) (ks : List Kept) → (label k.node).id ≢ m → first_with m (k ∷ ks) ≡ first_with m ks
pass m k ks e = ap (λ (t : Bool). if t then Some k else first_with m ks) (differs (label k.node).id m e)

pub stop : (m : ℕ) (k : Kept) (ks : List Kept) → (label k.node).id ≡ m → first_with m (k ∷ ks) ≡ Some k
stop m k ks e = ap (λ (t : Bool). if t then Some k else first_with m ks) (eq-eqb (label k.node).id m e)

-- a number below them is none of them
pub below_all : (n m : ℕ) (ks : List Kept) → counts_up n ks ≡ true → m < n → first_with m ks ≡ None
below_all n m [] e lt = refl
below_all n m (k ∷ ks) e lt =
    let h = first_is n k ks e in
    let apart : (label k.node).id ≢ m = omega (arith, h.0, lt) in
    pass m k ks apart ∙ below_all (n + 1) m ks h.1 (omega (arith, lt))

pub at_its_number : (n m : ℕ) (ks : List Kept) → counts_up n ks ≡ true → n ≤ m → slice_get ks (m - n) ≡ first_with m ks
at_its_number n m [] e le = refl
at_its_number n m (k ∷ ks) e le =
    let h = first_is n k ks e in
    elim (cases_lt n m) [
      | inl more ↦
          let i : m - n ≡ suc (m - (n + 1)) = omega (arith, more) in
          let apart : (label k.node).id ≢ m = omega (arith, h.0, more) in
          ap (slice_get (k ∷ ks)) i ∙ at_its_number (n + 1) m ks h.1 (omega (arith, more)) ∙ sym (pass m k ks apart)
      | inr less ↦
          let i : m - n ≡ 0 = omega (arith, less) in
          let here : (label k.node).id ≡ m = omega (arith, h.0, less, le) in
          ap (slice_get (k ∷ ks)) i ∙ sym (stop m k ks here)
    ]
