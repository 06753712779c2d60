-- A call of fewer than two bytes names no function.
use Rattle.std.proofs.Common.{◌≡◌, ℕ, ◌<◌, List, [], ◌∷◌, None, length, drop, refl, arith}
use Rattle.wt_span.specs.Functions.{begins_with, function_of}

pub short_names_none : (bs : List ℕ) → length bs < 2 → None ≡ function_of (drop 2 bs)
unfolding function_of begins_with
short_names_none [] l = refl
short_names_none (b ∷ []) l = refl
short_names_none (a ∷ b ∷ bs) l = absurd (omega (arith, l))
