-- The signs at the front of a line.
use Rattle.std.proofs.Common.{◌≡◌, ◌<◌, ℕ, suc, ◌+◌, ◌-◌, Bool, true, false, List, [], ◌∷◌, ◌++◌, take, refl, sym, ap, ◌∙◌, cond, arith, append_assoc, append-nil}
use Rattle.std.specs.Prelude.{min}
use Rattle.std.specs.List.{prefix_len}
use Rattle.std.proofs.Math.Nat.{min-zero, zero-min}
use Rattle.wt_blocks.specs.Nesting.{is_list_sign}
use Rattle.wt_rows.specs.Prefixes.{list_signs}

-- ---- signs of lists

pub none_left : (n : ℕ) → list_signs n [] ≡ []
none_left n = rw (min-zero n) refl

pub other_sign : (n s : ℕ) (ss : List ℕ) → is_list_sign s ≡ false → list_signs n (s ∷ ss) ≡ []
other_sign n s ss e = rw e (rw (min-zero n) refl)

suc_min : (n m : ℕ) → min (suc n) (suc m) ≡ suc (min n m)
suc_min n m = grind arith

taken_sign : (n s k : ℕ) (ss : List ℕ) → take (min (suc n) (suc k)) (s ∷ ss) ≡ s ∷ take (min n k) ss
taken_sign n s k ss = ap (λ m. take m (s ∷ ss)) (suc_min n k)

signs_by : (n s : ℕ) (ss : List ℕ) (v : Bool) → v ≡ true → take (min (suc n) (cond v (1 + prefix_len is_list_sign ss) 0)) (s ∷ ss) ≡ s ∷ list_signs n ss
signs_by n s ss true e =
    let more : 1 + prefix_len is_list_sign ss ≡ suc (prefix_len is_list_sign ss) = omega arith in
    ap (λ m. take (min (suc n) m) (s ∷ ss)) more ∙ taken_sign n s (prefix_len is_list_sign ss) ss
signs_by n s ss false e = cc

pub one_sign : (n s : ℕ) (ss : List ℕ) → is_list_sign s ≡ true → list_signs (suc n) (s ∷ ss) ≡ s ∷ list_signs n ss
one_sign n s ss e = signs_by n s ss (is_list_sign s) e

-- ---- a step of the loop that takes them

pub sign_taken : (done text whole s r : List ℕ) (i : ℕ) → i < 32 → ((n : ℕ) → list_signs (suc n) s ≡ text ++ list_signs n r)
    → done ++ list_signs (32 - i) s ≡ whole → (done ++ text) ++ list_signs (32 - (i + 1)) r ≡ whole
sign_taken done text whole s r i l step h =
    let k : 32 - i ≡ suc (32 - (i + 1)) = omega arith in
    append_assoc done text (list_signs (32 - (i + 1)) r)
    ∙ ap (λ ss. done ++ ss) (sym (step (32 - (i + 1))))
    ∙ ap (λ n. done ++ list_signs n s) (sym k) ∙ h

pub signs_end : (done whole s : List ℕ) (n : ℕ) → list_signs n s ≡ [] → done ++ list_signs n s ≡ whole → done ≡ whole
signs_end done whole s n e h = sym (append-nil done) ∙ ap (λ ss. done ++ ss) (sym e) ∙ h

pub no_more : (done whole s : List ℕ) (n : ℕ) → n ≡ 0 → done ++ list_signs n s ≡ whole → done ≡ whole
no_more done whole s n e h = signs_end done whole s n (ap (λ k. take (min k (prefix_len is_list_sign s)) s) e
    ∙ ap (λ k. take k s) (zero-min (prefix_len is_list_sign s))) h
