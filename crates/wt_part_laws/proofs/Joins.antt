-- A front that settles is read alone, and what follows it alone behind it.
use Rattle.std.proofs.Common.{arith, ◌≡◌, ℕ, zero, suc, ◌≤◌, Bool, Option, Some, None, List, [], ◌∷◌, ◌++◌, length, refl, sym, ap, ◌∙◌, subst}
use Rattle.wt_part_laws.specs.Scans.{Scanner, closed, cut_with, scan, after_all, onto, skipped_by, AtStarts, Settles, Passes, IsFrontOf, HasFronts}

-- one step of both, by the form that begins there
step : {A W : Type 0} (s : Scanner A W) (o : Option W) (f g : ℕ → ℕ × List W) → f (skipped_by s o) ≡ g (skipped_by s o)
    → cut_with s o f ≡ cut_with s o g
step {A} {W} s None f g e = let F : ℕ × List W → ℕ × List W = λ c. (suc c.0, c.1) in ap F e
step {A} {W} s (Some w) f g e = let F : ℕ × List W → ℕ × List W = λ c. (0, w ∷ closed s c.0 c.1) in ap F e

pub scan_joins : {A W : Type 0} (s : Scanner A W) (rest : List A) (after : Bool) (n : ℕ) (q : List A) → Settles s rest after n q
    → scan s after n (q ++ rest) ≡ onto s after n q (scan s (after_all s after q) 0 rest)
scan_joins s rest after n [] h = ap (λ (m : ℕ). scan s after m rest) h
scan_joins s rest after (suc n) (x ∷ q) h = scan_joins s rest (s.mark x) n q h
scan_joins s rest after zero (x ∷ q) h =
    let o = s.form after (x ∷ q) in
    let c = scan s (after_all s (s.mark x) q) 0 rest in
    ap (λ p. cut_with s p (λ n. scan s (s.mark x) n (q ++ rest))) h.0
    ∙ step s o (λ n. scan s (s.mark x) n (q ++ rest)) (λ n. onto s (s.mark x) n q c) (scan_joins s rest (s.mark x) (skipped_by s o) q h.1)

-- read alone, nothing comes at its end
pub scan_alone : {A W : Type 0} (s : Scanner A W) (after : Bool) (n : ℕ) (q : List A) → scan s after n q ≡ onto s after n q (0, [])
scan_alone s after n [] = refl
scan_alone s after (suc n) (x ∷ q) = scan_alone s (s.mark x) n q
scan_alone s after zero (x ∷ q) =
    step s (s.form after (x ∷ q)) (λ n. scan s (s.mark x) n q) (λ n. onto s (s.mark x) n q (0, []))
    (scan_alone s (s.mark x) (skipped_by s (s.form after (x ∷ q))) q)

-- what follows is replaced: at the starts alone the answers have to stay
pub starts_more : {A W : Type 0} (s : Scanner A W) (P Q : Bool → List A → Type 0) (after : Bool) (n : ℕ) (q : List A)
    → ((a : Bool) (xs : List A) → P a xs → Q a xs) → AtStarts s P after n q → AtStarts s Q after n q
starts_more s P Q after n [] f h = h
starts_more s P Q after (suc n) (x ∷ q) f h = starts_more s P Q (s.mark x) n q f h
starts_more s P Q after zero (x ∷ q) f h =
    (f after (x ∷ q) h.0, starts_more s P Q (s.mark x) (skipped_by s (s.form after (x ∷ q))) q f h.1)

-- ---- from the whole to a front

-- what is skipped lies in the front
pub passes_within : {A W : Type 0} (s : Scanner A W) (rest : List A) (after : Bool) (n : ℕ) (q : List A) → Passes s rest after n q → n ≤ length q
passes_within s rest after n [] h = omega (arith, h)
passes_within s rest after (suc n) (x ∷ q) h = let r = passes_within s rest (s.mark x) n q h in omega (arith, r)
passes_within s rest after zero (x ∷ q) h = omega arith

front_same : {A W : Type 0} (s : Scanner A W) (x : A) (q : List A) (o p : Option W) → IsFrontOf s (x ∷ q) o p → skipped_by s o ≤ length q → o ≡ p
front_same s x q None p f le = sym f
front_same s x q (Some w) p f le = sym (f (omega (arith, le)))

pub passes_settle : {A W : Type 0} (s : Scanner A W) (rest : List A) (after : Bool) (n : ℕ) (q : List A) → HasFronts s → Passes s rest after n q
    → Settles s rest after n q
passes_settle s rest after n [] fr h = h
passes_settle s rest after (suc n) (x ∷ q) fr h = passes_settle s rest (s.mark x) n q fr h
passes_settle s rest after zero (x ∷ q) fr h =
    let o = s.form after (x ∷ (q ++ rest)) in
    let p = s.form after (x ∷ q) in
    let k = skipped_by s o in
    let same : o ≡ p = front_same s x q o p (fr after (x ∷ q) rest) (passes_within s rest (s.mark x) k q h) in
    let P : ℕ → Type 0 = λ m. Settles s rest (s.mark x) m q in
    (same, subst P (ap (skipped_by s) same) (passes_settle s rest (s.mark x) k q fr h))
