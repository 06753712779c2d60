-- Tests on the bytes of a text, as facts.
use Rattle.std.proofs.Common.{◌≡◌, ℕ, zero, suc, ◌<◌, ◌≤◌, ◌==◌, Bool, true, false, List, [], ◌∷◌, length, get_or, take, nat_eq, nat_lt, nat_le, refl, sym, ⊎_elim, arith}
use Rattle.std.specs.Prelude.{◌&&◌}
use Rattle.std.specs.Cmp.Lexicographic.{pointwise}
use Rattle.std.proofs.lemmas.Bool.{eqb-true, cases_lt}
use Rattle.std.proofs.lemmas.Bool.Decides.{nat_tests}
use Rattle.std.proofs.lemmas.List.{get_or_past}
use Rattle.wt_span.specs.Bytes.{begins}

pub and_left : (a b : Bool) → (a && b) ≡ true → a ≡ true
and_left true b e = refl
and_left false b e = cc

pub and_right : (a b : Bool) → (a && b) ≡ true → b ≡ true
and_right true b e = e
and_right false b e = cc

pub lt_is : (m n : ℕ) → nat_lt m n ≡ true → m < n
lt_is m n e = grind (arith, nat_tests)

pub le_is : (m n : ℕ) → nat_le m n ≡ true → m ≤ n
le_is m n e = grind (arith, nat_tests)

-- a byte that isn't 0 lies within the text
pub is_within : (bs : List ℕ) (i c : ℕ) → get_or bs i 0 ≡ c → 0 < c → i < length bs
is_within bs i c e pos = ⊎_elim (λ h. h) (λ h. absurd (omega (arith, get_or_past bs i 0 h))) (cases_lt i (length bs))

pub byte_is : (bs : List ℕ) (i c : ℕ) → (get_or bs i 0 == c) ≡ true → get_or bs i 0 ≡ c
byte_is bs i c e = eqb-true (get_or bs i 0) c e

-- a text that begins with a word has its bytes
pub begins_get : (word bs : List ℕ) → begins word bs ≡ true → (k : ℕ) → k < length word → get_or bs k 0 ≡ get_or word k 0
begins_get [] bs e k h = absurd (omega arith)
begins_get (x ∷ word) [] e k h = cc
begins_get (x ∷ word) (b ∷ bs) e zero h = sym (eqb-true x b (and_left (nat_eq x b) (pointwise nat_eq word (take (length word) bs)) e))
begins_get (x ∷ word) (b ∷ bs) e (suc k) h = begins_get word bs (and_right (nat_eq x b) (pointwise nat_eq word (take (length word) bs)) e) k (omega arith)

pub begins_len : (word bs : List ℕ) → begins word bs ≡ true → length word ≤ length bs
begins_len [] bs e = omega arith
begins_len (x ∷ word) [] e = cc
begins_len (x ∷ word) (b ∷ bs) e = omega (arith, begins_len word bs (and_right (nat_eq x b) (pointwise nat_eq word (take (length word) bs)) e))
