-- Names that are compared one after another are in order.
use Rattle.std.proofs.Common.{◌≡◌, ℕ, ◌+◌, ◌-◌, ◌<◌, ◌≤◌, Bool, true, List, [], get_or, length, refl, sym, ap, ◌∙◌, subst, inl, inr, arith}
use Rattle.std.specs.Ordering.{nat_cmp, is_lt}
use Rattle.std.specs.Cmp.Lexicographic.{slice_cmp}
use Rattle.std.specs.List.Sorted.{IsStrictlySortedBy}
use Rattle.std.specs.declared.cmp.Ordering.{Ordering}
use Rattle.std.specs.declared.cmp.Ordering.TheVariants.{Less, Equal, Greater}
use Rattle.std.proofs.lemmas.Bool.{cases_lt}
use Rattle.std.proofs.lemmas.Cmp.{nat_list_cmp_total}
use Rattle.std.proofs.lemmas.List.{get_or-map}
use Rattle.std.proofs.lemmas.Map.Keys.{sorted_from_all_adjacent}
use Rattle.wt_datamw.proofs.MwBack.{Param, names}

-- the first names stand in order, one by one
abbrev pub FirstInOrder : List (List ℕ) → ℕ → Type 0
FirstInOrder names i = (k : ℕ) → k + 1 < i → slice_cmp nat_cmp (get_or names k []) (get_or names (k + 1) []) ≡ Less

less : (o : Ordering) → is_lt o ≡ true → o ≡ Less
less Less e = refl
less Equal e = cc
less Greater e = cc

-- one more
pub more_in_order : (names : List (List ℕ)) (i j : ℕ) → FirstInOrder names i → j + 1 ≡ i → is_lt (slice_cmp nat_cmp (get_or names j []) (get_or names i [])) ≡ true
    → FirstInOrder names (i + 1)
more_in_order names i j h e lt k below = elim (cases_lt (k + 1) i) [
  | inl before ↦ h k before
  | inr here ↦
      let same : k ≡ j = omega arith in
      subst (λ n. slice_cmp nat_cmp (get_or names n []) (get_or names (n + 1) []) ≡ Less) (sym same)
      (ap (λ n. slice_cmp nat_cmp (get_or names j []) (get_or names n [])) e ∙ less (slice_cmp nat_cmp (get_or names j []) (get_or names i [])) lt)
]

pub next_in_order : (ps : List Param) (i : ℕ) (a b : Param) (r : Bool) → FirstInOrder (names ps) i → 1 ≤ i → i < length ps
    → r ≡ is_lt (slice_cmp nat_cmp (get_or ps (i - 1) a).0 (get_or ps i b).0) → r ≡ true → FirstInOrder (names ps) (i + 1)
next_in_order ps i a b r h one within e t =
    let at_a : get_or (names ps) (i - 1) [] ≡ (get_or ps (i - 1) a).0 = get_or-map (λ (p : Param). p.0) ps (i - 1) a [] (omega arith) in
    let at_b : get_or (names ps) i [] ≡ (get_or ps i b).0 = get_or-map (λ (p : Param). p.0) ps i b [] within in
    more_in_order (names ps) i (i - 1) h (omega arith)
    (ap (λ n. is_lt (slice_cmp nat_cmp n (get_or (names ps) i []))) at_a
    ∙ ap (λ n. is_lt (slice_cmp nat_cmp (get_or ps (i - 1) a).0 n)) at_b ∙ sym e ∙ t)

pub all_in_order : (names : List (List ℕ)) (i : ℕ) → FirstInOrder names i → length names ≤ i → IsStrictlySortedBy (slice_cmp nat_cmp) names
all_in_order names i h le = sorted_from_all_adjacent nat_list_cmp_total names [] (λ k below. h k (omega arith))
