-- Numbers that a few digits write: they are small.
use Rattle.std.proofs.Common.{◌≡◌, ℕ, zero, suc, ◌+◌, ◌*◌, ◌^◌, ◌<◌, ◌≤◌, Bool, true, false, cond, List, [], ◌∷◌, length, get_or, take, refl, sym, subst, arith, length-take}
use Rattle.std.specs.Char.{digit_value}
use Rattle.std.specs.List.{prefix_len}
use Rattle.std.specs.Str.Parse.{digits_value, AllDigits}
use Rattle.std.proofs.Math.Nat.{pow-le-pow_right}
use Rattle.std.proofs.lemmas.Int.Digits.{digits_value-lt, digits_value_more}

digits_take : (base : ℕ) (ds : List ℕ) (i : ℕ) → AllDigits base ds → AllDigits base (take i ds)
digits_take base [] zero h = tt
digits_take base [] (suc i) h = tt
digits_take base (d ∷ ds) zero h = tt
digits_take base (d ∷ ds) (suc i) h = (h.0, digits_take base ds i h.1)

-- one digit more is within the bound of all digits
pub one_digit : (base : ℕ) (ds : List ℕ) (i : ℕ) → 0 < base → AllDigits base ds → i < length ds
    → digits_value base (take i ds) * base + digit_value (get_or ds i 0) < base ^ length ds
one_digit base ds i pos all h =
    let more = digits_value_more base ds i h in
    let low = digits_value-lt base (take (i + 1) ds) (digits_take base ds (i + 1) all) in
    let short : length (take (i + 1) ds) ≤ length ds = omega (arith, length-take (i + 1) ds) in
    let high = pow-le-pow_right pos short in
    omega arith

all_by : (p : ℕ → Bool) (base : ℕ) (t : Bool) (b : ℕ) (bs : List ℕ) (n : ℕ) → (t ≡ true → digit_value b < base)
    → AllDigits base (take n bs) → AllDigits base (take (cond t (1 + n) 0) (b ∷ bs))
all_by p base false b bs n f h = tt
all_by p base true b bs n f h =
    let e : 1 + n ≡ suc n = omega arith in
    let P : ℕ → Type 0 = λ m. AllDigits base (take m (b ∷ bs)) in
    subst P (sym e) (f refl, h)

-- a run of digits of a base
pub run_digits : (p : ℕ → Bool) (base : ℕ) → ((b : ℕ) → p b ≡ true → digit_value b < base) → (bs : List ℕ) → AllDigits base (take (prefix_len p bs) bs)
run_digits p base f [] = tt
run_digits p base f (b ∷ bs) = all_by p base (p b) b bs (prefix_len p bs) (f b) (run_digits p base f bs)
