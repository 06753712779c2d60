-- Characters of several bytes that stand at the front of bytes, whole or begun.
use Rattle.std.proofs.Common.{◌≡◌, ℕ, zero, suc, ◌<◌, ◌≤◌, Bool, true, false, Option, Some, None, List, [], ◌∷◌, ◌++◌, length, take, refl, sym, ap, ◌∙◌, arith}
use Rattle.std.specs.Prelude.{if◌then◌else◌, ◌==◌}
use Rattle.std.proofs.lemmas.Bool.Decides.{nat_tests}
use Rattle.wt_html_grammar.specs.Signs.{Follow, follow, between, IsFollow}
use Rattle.wt_html_grammar.proofs.Steps.{if_true, if_case}
use Rattle.wt_utf8.specs.Begun.{following_len}

-- ---- what is begun can be completed

at_low : (low high : ℕ) → low ≤ high → between low high low ≡ true
at_low low high h = grind (arith, nat_tests)

-- some bytes that may follow
any_follow : (low high n : ℕ) → low ≤ high → (bs : List ℕ) × IsFollow low high n bs
any_follow low high zero h = (low ∷ [], (at_low low high h, refl))
any_follow low high (suc n) h = let r = any_follow 128 191 n (omega arith) in (low ∷ r.0, (at_low low high h, r.1))

abbrev Completed : ℕ → ℕ → ℕ → List ℕ → ℕ → Type 0
Completed low high n bs k = (more : List ℕ) × IsFollow low high n (take k bs ++ more)

by_none : (low high n : ℕ) (bs : List ℕ) → low ≤ high → Completed low high n bs 0
by_none low high n bs h = any_follow low high n h

last_by : (low high b : ℕ) (bs : List ℕ) (t : Bool) → low ≤ high → between low high b ≡ t → Completed low high 0 (b ∷ bs) (if t then 1 else 0)
last_by low high b bs true h e = ([], (e, refl))
last_by low high b bs false h e = by_none low high 0 (b ∷ bs) h

more_by : (low high n b : ℕ) (bs : List ℕ) (t : Bool) → low ≤ high → between low high b ≡ t → Completed 128 191 n bs (following_len 128 191 n bs)
    → Completed low high (suc n) (b ∷ bs) (if t then suc (following_len 128 191 n bs) else 0)
more_by low high n b bs true h e rest = (rest.0, (e, rest.1))
more_by low high n b bs false h e rest = by_none low high (suc n) (b ∷ bs) h

pub completed : (low high n : ℕ) (bs : List ℕ) → low ≤ high → Completed low high n bs (following_len low high n bs)
completed low high n [] h = by_none low high n [] h
completed low high zero (b ∷ bs) h = last_by low high b bs (between low high b) h refl
completed low high (suc n) (b ∷ bs) h = more_by low high n b bs (between low high b) h refl (completed 128 191 n bs (omega arith))

-- ---- what follows to its end is whole

whole_last : (low high b : ℕ) (bs : List ℕ) (t : Bool) → between low high b ≡ t → (if t then suc zero else zero) ≡ suc zero
    → IsFollow low high 0 (take 1 (b ∷ bs))
whole_last low high b bs true e h = (e, refl)
whole_last low high b bs false e h = absurd (omega arith)

whole_more : (low high n b : ℕ) (bs : List ℕ) (t : Bool) → between low high b ≡ t → (following_len 128 191 n bs ≡ suc n → IsFollow 128 191 n (take (suc n) bs))
    → (if t then suc (following_len 128 191 n bs) else zero) ≡ suc (suc n) → IsFollow low high (suc n) (take (suc (suc n)) (b ∷ bs))
whole_more low high n b bs true e rest h = (e, rest (omega arith))
whole_more low high n b bs false e rest h = absurd (omega arith)

pub whole : (low high n : ℕ) (bs : List ℕ) → following_len low high n bs ≡ suc n → IsFollow low high n (take (suc n) bs)
whole low high n [] h = absurd (omega arith)
whole low high zero (b ∷ bs) h = whole_last low high b bs (between low high b) refl h
whole low high (suc n) (b ∷ bs) h = whole_more low high n b bs (between low high b) refl (whole 128 191 n bs) h

-- ---- no character goes on past what may follow

pub blocked : (low high n : ℕ) (bs es w more : List ℕ) (k : ℕ) → IsFollow low high n es → es ++ w ≡ take k bs ++ more
    → following_len low high n bs < k → k ≤ length bs
    → (following_len low high n bs ≡ suc n → ⊥) → ⊥
blocked low high n [] es w more k f e lt le half = absurd (omega arith)
blocked low high n (b ∷ bs) es w more zero f e lt le half = absurd (omega arith)
blocked low high zero (b ∷ bs) [] w more (suc k) f e lt le half = f
blocked low high (suc n) (b ∷ bs) [] w more (suc k) f e lt le half = f
blocked low high zero (b ∷ bs) (x ∷ es) w more (suc k) f e lt le half =
    let same : x ≡ b = cc in
    half (if_true (between low high b) (suc zero) zero (sym (ap (between low high) same) ∙ f.0))
blocked low high (suc n) (b ∷ bs) (x ∷ es) w more (suc k) f e lt le half =
    let same : x ≡ b = cc in
    let others : es ++ w ≡ take k bs ++ more = cc in
    let one : following_len low high (suc n) (b ∷ bs) ≡ suc (following_len 128 191 n bs) =
    if_true (between low high b) (suc (following_len 128 191 n bs)) zero (sym (ap (between low high) same) ∙ f.0) in
    blocked 128 191 n bs es w more k f.1 others (omega arith) (omega arith) (λ h. half (one ∙ ap suc h))

-- ---- the table

abbrev pub IsOrdered : Option Follow → Type 0
IsOrdered None = Unit {0}
IsOrdered (Some f) = f.low ≤ f.high

pub ordered : (b : ℕ) → IsOrdered (follow b)
ordered b =
    if_case IsOrdered (between 194 223 b) _ _ (λ _. omega arith) (λ _.
    if_case IsOrdered (b == 224) _ _ (λ _. omega arith) (λ _.
    if_case IsOrdered (b == 237) _ _ (λ _. omega arith) (λ _.
    if_case IsOrdered (between 225 239 b) _ _ (λ _. omega arith) (λ _.
    if_case IsOrdered (b == 240) _ _ (λ _. omega arith) (λ _.
    if_case IsOrdered (between 241 243 b) _ _ (λ _. omega arith) (λ _.
    if_case IsOrdered (b == 244) _ _ (λ _. omega arith) (λ _. tt)))))))
