-- Where the last block of stretches stands, by their first.
use Rattle.std.proofs.Common.{◌≡◌, ℕ, suc, ◌+◌, ◌<◌, ◌≤◌, ◌⊎◌, Bool, true, false, List, [], ◌∷◌, length, take, drop, refl, sym, ap, ◌∙◌, subst, arith, inl, inr}
use Rattle.std.specs.Prelude.{◌==◌, reverse, if◌then◌else◌}
use Rattle.std.specs.List.{AllByRecursion, prefix_len}
use Rattle.std.proofs.lemmas.Bool.{eqb-true}
use Rattle.std.proofs.lemmas.Bool.Decides.{nat_tests}
use Rattle.std.proofs.lemmas.List.{reverse-append, length-reverse}
use Rattle.std.proofs.lemmas.List.Folds.{prefix_len-append}
use Rattle.std.proofs.lemmas.List.Sums.{prefix_len-le-length}
use Rattle.wt_span.specs.Items.{Item}
use Rattle.wt_inline.specs.Parts.{Part}
use Rattle.wt_page.specs.Stretches.{Stretch, gap, block, is_gap, front_gaps, block_len, end_gaps}

if_true : (t : Bool) (m n : ℕ) → t ≡ true → (if t then m else n) ≡ m
if_true true m n e = refl
if_true false m n e = cc

if_false : (t : Bool) (m n : ℕ) → t ≡ false → (if t then m else n) ≡ n
if_false false m n e = refl
if_false true m n e = cc

abbrev pub AreGaps : List Stretch → Type 0
AreGaps ss = AllByRecursion (λ s. is_gap s ≡ true) ss

pub front_are_gaps : (ss : List Stretch) → AreGaps (front_gaps ss)
front_are_gaps [] = tt
front_are_gaps (gap xs ∷ ss) =
    let z : 1 + prefix_len is_gap ss ≡ suc (prefix_len is_gap ss) = omega arith in
    subst (λ n. AreGaps (take n (gap xs ∷ ss))) (sym z) (refl, front_are_gaps ss)
front_are_gaps (block ps ∷ ss) = tt

gap_count : (s : Stretch) (ss : List Stretch) → prefix_len is_gap (reverse (s ∷ ss))
    ≡ (if prefix_len is_gap (reverse ss) == length (reverse ss) then length (reverse ss) + prefix_len is_gap (s ∷ []) else prefix_len is_gap (reverse ss))
gap_count s ss = ap (prefix_len is_gap) (reverse-append (s ∷ []) ss) ∙ prefix_len-append is_gap (reverse ss) (s ∷ [])

-- a block in front is one more before the last
pub block_first : (ps : List Part) (ss : List Stretch) → block_len (block ps ∷ ss) ≡ suc (block_len ss)
block_first ps ss = by_test (prefix_len is_gap (reverse ss) == length (reverse ss)) refl
  where
    by_test : (t : Bool) → (prefix_len is_gap (reverse ss) == length (reverse ss)) ≡ t → block_len (block ps ∷ ss) ≡ suc (block_len ss)
    by_test true e =
        let f : prefix_len is_gap (reverse ss) ≡ length (reverse ss) = eqb-true _ _ e in
        let n : length (reverse ss) ≡ length ss = length-reverse ss in
        let c : prefix_len is_gap (reverse (block ps ∷ ss)) ≡ length (reverse ss) + 0 = gap_count (block ps) ss ∙ if_true _ _ _ e in
        omega (arith, f, n, c)
    by_test false e =
        let n : length (reverse ss) ≡ length ss = length-reverse ss in
        let c : prefix_len is_gap (reverse (block ps ∷ ss)) ≡ prefix_len is_gap (reverse ss) = gap_count (block ps) ss ∙ if_false _ _ _ e in
        let le : prefix_len is_gap (reverse ss) ≤ length (reverse ss) = prefix_len-le-length is_gap (reverse ss) in
        omega (arith, n, c, le)

-- a gap in front is one more where a block follows, and else lies behind all
pub gap_first : (xs : List Item) (ss : List Stretch)
    → ((block_len (gap xs ∷ ss) ≡ 0) × (block_len ss ≡ 0)) ⊎ ((block_len (gap xs ∷ ss) ≡ suc (block_len ss)) × (0 < block_len ss))
gap_first xs ss = by_test (prefix_len is_gap (reverse ss) == length (reverse ss)) refl
  where
    less : (m n : ℕ) → m ≤ n → (m == n) ≡ false → m < n
    less m n l e = grind (arith, nat_tests)

    by_test : (t : Bool) → (prefix_len is_gap (reverse ss) == length (reverse ss)) ≡ t
        → ((block_len (gap xs ∷ ss) ≡ 0) × (block_len ss ≡ 0)) ⊎ ((block_len (gap xs ∷ ss) ≡ suc (block_len ss)) × (0 < block_len ss))
    by_test true e =
        let f : prefix_len is_gap (reverse ss) ≡ length (reverse ss) = eqb-true _ _ e in
        let n : length (reverse ss) ≡ length ss = length-reverse ss in
        let c : prefix_len is_gap (reverse (gap xs ∷ ss)) ≡ length (reverse ss) + 1 = gap_count (gap xs) ss ∙ if_true _ _ _ e in
        inl (omega (arith, f, n, c), omega (arith, f, n))
    by_test false e =
        let n : length (reverse ss) ≡ length ss = length-reverse ss in
        let c : prefix_len is_gap (reverse (gap xs ∷ ss)) ≡ prefix_len is_gap (reverse ss) = gap_count (gap xs) ss ∙ if_false _ _ _ e in
        let le : prefix_len is_gap (reverse ss) ≤ length (reverse ss) = prefix_len-le-length is_gap (reverse ss) in
        let lt : prefix_len is_gap (reverse ss) < length (reverse ss) = less _ _ le e in
        inr (omega (arith, n, c, le), omega (arith, n, lt))

pub end_are_gaps : (ss : List Stretch) → AreGaps (end_gaps ss)
end_are_gaps [] = tt
end_are_gaps (block ps ∷ ss) = subst (λ n. AreGaps (drop n (block ps ∷ ss))) (sym (block_first ps ss)) (end_are_gaps ss)
end_are_gaps (gap xs ∷ ss) = elim (gap_first xs ss) [
  | inl q ↦ subst (λ n. AreGaps (drop n (gap xs ∷ ss))) (sym q.0)
      (refl, subst (λ n. AreGaps (drop n ss)) q.1 (end_are_gaps ss))
  | inr q ↦ subst (λ n. AreGaps (drop n (gap xs ∷ ss))) (sym q.0) (end_are_gaps ss)
]
