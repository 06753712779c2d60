-- A text of which no line break is counted has none, and the other way round.
use Rattle.std.proofs.Common.{arith, ◌≡◌, ℕ, ◌+◌, ◌==◌, Bool, true, false, List, [], ◌∷◌, refl, ap, ◌∙◌}
use Rattle.std.specs.Prelude.{◌||◌, cond}
use Rattle.std.proofs.lemmas.List.Sums.{sum_by-cons}
use Rattle.wt_content.specs.Content.{has_break}
use Rattle.wt_beside_laws.proofs.Styled.SentFaults.{or_both}
use Rattle.wt_inside_laws.specs.TextEdits.{breaks_of}

one_more : (b : ℕ) (bs : List ℕ) (v : Bool) → (b == 10) ≡ v → breaks_of (b ∷ bs) ≡ cond v 1 0 + breaks_of bs
one_more b bs v e = sum_by-cons (λ (x : ℕ). cond (x == 10) 1 0) b bs ∙ ap (λ (t : Bool). cond t 1 0 + breaks_of bs) e

pub unbroken_count : (bs : List ℕ) → has_break bs ≡ false → breaks_of bs ≡ 0
unbroken_count [] h = refl
unbroken_count (b ∷ bs) h =
    let a = or_both (b == 10) (has_break bs) h in
    let rest = unbroken_count bs a.1 in
    let first = one_more b bs false a.0 in
    omega (arith, first, rest)

count_first : (b : ℕ) (bs : List ℕ) (v : Bool) → (b == 10) ≡ v → breaks_of (b ∷ bs) ≡ 0 → (breaks_of bs ≡ 0 → has_break bs ≡ false) → has_break (b ∷ bs) ≡ false
count_first b bs true e h g = absurd (let first = one_more b bs true e in omega (arith, first, h))
count_first b bs false e h g =
    let first = one_more b bs false e in
    ap (λ (v : Bool). v || has_break bs) e ∙ g (omega (arith, first, h))

pub count_unbroken : (bs : List ℕ) → breaks_of bs ≡ 0 → has_break bs ≡ false
count_unbroken [] h = refl
count_unbroken (b ∷ bs) h = count_first b bs (b == 10) refl h (λ e. count_unbroken bs e)
