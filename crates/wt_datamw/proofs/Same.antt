-- Texts that compare as equal are the same.
use Rattle.std.proofs.Common.{◌≡◌, ℕ, Bool, true, false, List, [], ◌∷◌, refl, sym, ap, ◌∙◌}
use Rattle.std.specs.Prelude.{not, ◌&&◌, nat_eq}
use Rattle.std.specs.Cmp.Lexicographic.{pointwise}
use Rattle.std.proofs.lemmas.Bool.{eqb-true, not-false}

both_yes : (a b : Bool) → (a && b) ≡ true → (a ≡ true) × (b ≡ true)
both_yes true b e = (refl, e)
both_yes false b e = cc

same : (xs ys : List ℕ) → pointwise nat_eq xs ys ≡ true → xs ≡ ys
same [] [] e = refl
same [] (y ∷ ys) e = cc
same (x ∷ xs) [] e = cc
same (x ∷ xs) (y ∷ ys) e =
    let p = both_yes (nat_eq x y) (pointwise nat_eq xs ys) e in
    ap (λ z. z ∷ xs) (eqb-true x y p.0) ∙ ap (λ zs. y ∷ zs) (same xs ys p.1)

pub not_other : (xs ys : List ℕ) → false ≡ not (pointwise nat_eq xs ys) → xs ≡ ys
not_other xs ys e = same xs ys (not-false (pointwise nat_eq xs ys) (sym e))
