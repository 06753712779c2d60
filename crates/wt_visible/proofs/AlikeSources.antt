-- Two lists that are the same without the white space round each text are the same so at each place.
use Rattle.std.proofs.Common.{arith, ◌≡◌, ◌<◌, ℕ, zero, suc, List, [], ◌∷◌, length, map, get_or, sym, ap, ◌∙◌}
use Rattle.wt_visible.specs.Tally.{trimmed}

pub alike_at : (xs ys : List (List ℕ)) (i : ℕ) (x y : List ℕ) → i < length xs → i < length ys → x ≡ get_or xs i x → y ≡ get_or ys i y
    → map trimmed xs ≡ map trimmed ys → trimmed x ≡ trimmed y
alike_at [] ys i x y below under is other e = absurd (omega (arith, below))
alike_at (a ∷ xs) [] i x y below under is other e = absurd (omega (arith, under))
alike_at (a ∷ xs) (b ∷ ys) zero x y below under is other e = let h : trimmed a ≡ trimmed b = cc in ap trimmed is ∙ h ∙ sym (ap trimmed other)
alike_at (a ∷ xs) (b ∷ ys) (suc i) x y below under is other e =
    let t : map trimmed xs ≡ map trimmed ys = cc in alike_at xs ys i x y (omega (arith, below)) (omega (arith, under)) is other t
