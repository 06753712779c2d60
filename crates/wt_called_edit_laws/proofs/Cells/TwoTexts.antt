-- What is before a place, where two things may be there.
use Rattle.std.proofs.Common.{◌≡◌, ◌≢◌, ℕ, List, [], ◌∷◌, ◌++◌, refl, sym, ap, ap₂, ◌∙◌}

head_or : ℕ → List ℕ → ℕ
head_or n [] = n
head_or n (x ∷ xs) = x

tail_of : List ℕ → List ℕ
tail_of [] = []
tail_of (x ∷ xs) = xs

same_head : (c d : ℕ) (xs ys : List ℕ) → c ∷ xs ≡ d ∷ ys → c ≡ d
unfolding head_or
same_head c d xs ys e = ap (head_or 0) e

same_tail_of : (c d : ℕ) (xs ys : List ℕ) → c ∷ xs ≡ d ∷ ys → xs ≡ ys
unfolding tail_of
same_tail_of c d xs ys e = ap tail_of e

pub same_round : (f b x z : List ℕ) (c d : ℕ) → c ≢ d → f ++ c ∷ b ≡ x ++ c ∷ z → f ++ d ∷ b ≡ x ++ d ∷ z → (f ≡ x) × (b ≡ z)
same_round [] b [] z c d n e g = (refl, same_tail_of c c b z e)
same_round [] b (y ∷ x) z c d n e g = absurd (n (same_head c y b (x ++ c ∷ z) e ∙ sym (same_head d y b (x ++ d ∷ z) g)))
same_round (y ∷ f) b [] z c d n e g = absurd (n (sym (same_head y c (f ++ c ∷ b) z e) ∙ same_head y d (f ++ d ∷ b) z g))
same_round (y ∷ f) b (w ∷ x) z c d n e g =
    let r = same_round f b x z c d n (same_tail_of y w (f ++ c ∷ b) (x ++ c ∷ z) e) (same_tail_of y w (f ++ d ∷ b) (x ++ d ∷ z) g) in
    (ap₂ (λ (a : ℕ) (fs : List ℕ). a ∷ fs) (same_head y w (f ++ c ∷ b) (x ++ c ∷ z) e) r.0, r.1)
