-- The first single bar of a line.
use Rattle.std.proofs.Common.{◌≡◌, ℕ, zero, suc, ◌+◌, ◌-◌, ◌==◌, Bool, true, false, List, [], ◌∷◌, length, refl, ap, ◌∙◌, cond, arith, nat_lt}
use Rattle.std.specs.Prelude.{not, ◌&&◌, slice_index, if◌then◌else◌}
use Rattle.std.specs.List.{position_or_len, range_with_len}
use Rattle.std.proofs.lemmas.Bool.Decides.{nat_tests}
use Rattle.wt_tables.specs.Cells.{is_single, single_at}
use Rattle.wt_tables.specs.Views.{begins_single}
use Rattle.wt_tables.proofs.Ends.{shifted, same_test}

-- behind a bar or not
abbrev pub single_from : Bool → List ℕ → ℕ
single_from bar [] = 0
single_from bar (s ∷ ss) = if begins_single bar (s ∷ ss) then 0 else suc (single_from (s == 124) ss)

abbrev bar_before : Bool → List ℕ → ℕ → Bool
bar_before bar ss zero = bar
bar_before bar ss (suc k) = slice_index ss k == 124

abbrev single_by : Bool → List ℕ → ℕ → Bool
single_by bar ss k = slice_index ss k == 124 && (not (bar_before bar ss k) && not (slice_index ss (suc k) == 124))

next_single : (bar : Bool) (s : ℕ) (ss : List ℕ) (k : ℕ) → single_by bar (s ∷ ss) (suc k) ≡ single_by (s == 124) ss k
next_single bar s ss zero = refl
next_single bar s ss (suc k) = refl

pub turned : (s : ℕ) → (124 == s) ≡ (s == 124)
turned s = grind (arith, nat_tests)

and_true : (b : Bool) → (b && true) ≡ b
and_true true = refl
and_true false = refl

pair_by : (a bar b : Bool) → (a && (not bar && not b)) ≡ (not bar && (a && not (a && b)))
pair_by true true true = refl
pair_by true true false = refl
pair_by true false true = refl
pair_by true false false = refl
pair_by false true b = refl
pair_by false false b = refl

ends_by : (bar a : Bool) → (not bar && (a && not (a && false))) ≡ (not bar && ((a && true) && not (a && false)))
ends_by true true = refl
ends_by true false = refl
ends_by false true = refl
ends_by false false = refl

more_by : (bar a b : Bool) → (not bar && (a && not (a && b))) ≡ (not bar && ((a && true) && not (a && (b && true))))
more_by true true true = refl
more_by true true false = refl
more_by true false b = refl
more_by false true true = refl
more_by false true false = refl
more_by false false b = refl

-- at the front
pub front_single : (bar : Bool) (s : ℕ) (ss : List ℕ) → single_by bar (s ∷ ss) 0 ≡ begins_single bar (s ∷ ss)
front_single bar s [] = pair_by (s == 124) bar false ∙ rw (turned s) (ends_by bar (s == 124))
front_single bar s (t ∷ ss) = pair_by (s == 124) bar (t == 124) ∙ rw (turned s, turned t) (more_by bar (s == 124) (t == 124))

from_by : (a b : Bool) (n m : ℕ) → a ≡ b → n ≡ m → cond (not a) (1 + n) 0 ≡ (if b then 0 else suc m)
from_by a true n m e f = rw e refl
from_by a false n m e f = rw e (omega (arith, f))

pub from_is : (bar : Bool) (ss : List ℕ) → position_or_len (single_by bar ss) (range_with_len 0 (length ss)) ≡ single_from bar ss
from_is bar [] = refl
from_is bar (s ∷ ss) =
    let more : position_or_len (single_by bar (s ∷ ss)) (range_with_len (0 + 1) (length ss)) ≡ single_from (s == 124) ss =
    shifted (single_by bar (s ∷ ss)) (single_by (s == 124) ss) 0 (length ss) (next_single bar s ss) ∙ from_is (s == 124) ss in
    from_by (single_by bar (s ∷ ss) 0) (begins_single bar (s ∷ ss)) _ _ (front_single bar s ss) more

pos_test : (k : ℕ) → nat_lt 0 (suc k) ≡ true
pos_test k = grind (arith, nat_tests)

same_single : (ss : List ℕ) (k : ℕ) → is_single ss k ≡ single_by false ss k
same_single ss zero = refl
same_single ss (suc k) =
    let b : suc k - 1 ≡ k = omega arith in
    let c : suc k + 1 ≡ suc (suc k) = omega arith in
    ap (λ (t : Bool). slice_index ss (suc k) == 124 && (not (t && slice_index ss (suc k - 1) == 124) && not (slice_index ss (suc k + 1) == 124))) (pos_test k)
    ∙ ap (λ (n : ℕ). slice_index ss (suc k) == 124 && (not (slice_index ss n == 124) && not (slice_index ss (suc k + 1) == 124))) b
    ∙ ap (λ (n : ℕ). slice_index ss (suc k) == 124 && (not (slice_index ss k == 124) && not (slice_index ss n == 124))) c

pub single_is : (ss : List ℕ) → single_at ss ≡ single_from false ss
unfolding single_at
single_is ss = same_test (is_single ss) (single_by false ss) (range_with_len 0 (length ss)) (same_single ss) ∙ from_is false ss
