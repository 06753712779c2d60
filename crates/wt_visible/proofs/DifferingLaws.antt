-- The first child in which two bodies differ, as a function and as it is defined.
use Rattle.std.proofs.Common.{◌≡◌, ℕ, zero, suc, ◌+◌, Bool, true, false, cond, refl, sym, ap, ◌∙◌, List, [], ◌∷◌, arith}
use Rattle.std.specs.Prelude.{◌≢◌, Option, Some, None, take, slice_get}
use Rattle.std.specs.Bool.{Decides}
use Rattle.std.proofs.lemmas.Slice.Eq.{bytes_eq-Decides}
use Rattle.wt_tree.specs.Plain.{Plain, text, element, Plains, ended, along}
use Rattle.wt_visible.specs.SameNodes.{same_face}
use Rattle.wt_visible.specs.Children.{same_plain, same_plains, differing, IsFirstDiffering}
use Rattle.wt_visible.proofs.SameTells.{both, face_told}

mutual
  pub plain_told : (p q : Plain) → Decides (same_plain p q) (p ≡ q)
  plain_told (text bs) (text cs) = let d = bytes_eq-Decides bs cs in (λ h. ap text (d.0 h), λ e. d.1 cc)
  plain_told (text bs) (element g qs) = (λ h. cc, λ e. cc)
  plain_told (element f ps) (text cs) = (λ h. cc, λ e. cc)
  plain_told (element f ps) (element g qs) =
      let d = both (same_face f g) (same_plains ps qs) (face_told f g) (plains_told ps qs) in
      (λ h. let r = d.0 h in ap (λ x. element x ps) r.0 ∙ ap (element g) r.1, λ e. d.1 (cc, cc))

  pub plains_told : (ps qs : Plains) → Decides (same_plains ps qs) (ps ≡ qs)
  plains_told ended ended = (λ h. refl, λ e. refl)
  plains_told ended (along q qs) = (λ h. cc, λ e. cc)
  plains_told (along p ps) ended = (λ h. cc, λ e. cc)
  plains_told (along p ps) (along q qs) =
      let d = both (same_plain p q) (same_plains ps qs) (plain_told p q) (plains_told ps qs) in
      (λ h. let r = d.0 h in ap (λ x. along x ps) r.0 ∙ ap (along q) r.1, λ e. d.1 (cc, cc))

-- where they show the same, no child is told
pub same_none : (at : ℕ) (xs : List Plain) → differing at xs xs ≡ None
same_none at [] = refl
same_none at (x ∷ xs) =
    let t : same_plain x x ≡ true = (plain_told x x).1 refl in
    rw t (same_none (suc at) xs)

by_test : (at : ℕ) (x y : Plain) (xs ys : List Plain) (v : Bool) → same_plain x y ≡ v → (differing (suc at) xs ys ≡ None → xs ≡ ys)
    → cond v (differing (suc at) xs ys) (Some at) ≡ None → (x ∷ xs) ≡ (y ∷ ys)
by_test at x y xs ys true is rest f =
    let p : x ≡ y = (plain_told x y).0 is in
    let q : xs ≡ ys = rest f in
    cc
by_test at x y xs ys false is rest f = cc

-- where no child is told, they show the same
pub none_same : (at : ℕ) (xs ys : List Plain) → differing at xs ys ≡ None → xs ≡ ys
none_same at [] [] e = refl
none_same at [] (y ∷ ys) e = cc
none_same at (x ∷ xs) [] e = cc
none_same at (x ∷ xs) (y ∷ ys) e = by_test at x y xs ys (same_plain x y) refl (none_same (suc at) xs ys) e

-- the first place in which they differ is told
some_told : (at n : ℕ) (xs ys : List Plain) → take n xs ≡ take n ys → slice_get xs n ≢ slice_get ys n → differing at xs ys ≡ Some (at + n)
some_told at n [] [] t d = absurd (d refl)
some_told at zero [] (y ∷ ys) t d = ap Some (omega arith)
some_told at (suc n) [] (y ∷ ys) t d = cc
some_told at zero (x ∷ xs) [] t d = ap Some (omega arith)
some_told at (suc n) (x ∷ xs) [] t d = cc
some_told at zero (x ∷ xs) (y ∷ ys) t d = at_once (same_plain x y) refl
  where
    at_once : (v : Bool) → same_plain x y ≡ v → cond v (differing (suc at) xs ys) (Some at) ≡ Some (at + 0)
    at_once true is = absurd (d (ap Some ((plain_told x y).0 is)))
    at_once false is = ap Some (omega arith)
some_told at (suc n) (x ∷ xs) (y ∷ ys) t d =
    let p : x ≡ y = cc in
    let q : take n xs ≡ take n ys = cc in
    let s : same_plain x y ≡ true = (plain_told x y).1 p in
    let place : suc at + n ≡ at + suc n = omega arith in
    rw s (some_told (suc at) n xs ys q d ∙ ap Some place)

-- The first child in which two lists differ is what the function tells.
pub differing_is : (xs ys : List Plain) (r : Option ℕ) → IsFirstDiffering xs ys r → r ≡ differing 1 xs ys
differing_is xs ys None e = rw e (sym (same_none 1 ys))
differing_is xs ys (Some k) d =
    let place : k ≡ 1 + d.before = omega (arith, d.is) in
    ap Some place ∙ sym (some_told 1 d.before xs ys d.same d.differs)
