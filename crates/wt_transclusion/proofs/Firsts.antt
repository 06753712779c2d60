-- Where a tag stands first, and what is taken up to it.
use Rattle.std.proofs.Common.{◌≡◌, ℕ, suc, ◌+◌, ◌<◌, Bool, true, false, cond, Option, Some, None, option_map, List, ◌∷◌, length, get_or, drop, refl, sym, ap, ◌∙◌, arith}
use Rattle.std.proofs.lemmas.List.{drop_more}
use Rattle.wt_transclusion.specs.Only.{first_at}

-- so many more bytes stand before it
abbrev pub shifted : ℕ → Option ℕ → Option ℕ
shifted n None = None
shifted n (Some k) = Some (n + k)

pub shifted_zero : (o : Option ℕ) → shifted 0 o ≡ o
shifted_zero None = refl
shifted_zero (Some k) = ap Some (omega arith)

shifted_next : (n : ℕ) (o : Option ℕ) → shifted n (option_map suc o) ≡ shifted (n + 1) o
shifted_next n None = refl
shifted_next n (Some k) = ap Some (omega arith)

here_by : (t : Bool) (o : Option ℕ) → t ≡ true → cond t (Some 0) o ≡ Some 0
here_by true o e = refl
here_by false o e = cc

after_by : (t : Bool) (o : Option ℕ) → t ≡ false → cond t (Some 0) o ≡ o
after_by true o e = cc
after_by false o e = refl

-- it is at this place
pub first_here : (test : List ℕ → Bool) (bs : List ℕ) (i : ℕ) → i < length bs → test (drop i bs) ≡ true → shifted i (first_at test (drop i bs)) ≡ Some i
first_here test bs i l e =
    let step = drop_more bs i 0 l in
    ap (λ xs. shifted i (first_at test xs)) step ∙ ap (shifted i) (here_by (test (get_or bs i 0 ∷ drop (i + 1) bs)) _ (ap test (sym step) ∙ e))
    ∙ ap Some (omega arith)

-- or behind it
pub first_after : (test : List ℕ → Bool) (bs : List ℕ) (i : ℕ) → i < length bs → test (drop i bs) ≡ false
    → shifted (i + 1) (first_at test (drop (i + 1) bs)) ≡ shifted i (first_at test (drop i bs))
first_after test bs i l e =
    let step = drop_more bs i 0 l in
    sym (ap (λ xs. shifted i (first_at test xs)) step ∙ ap (shifted i) (after_by (test (get_or bs i 0 ∷ drop (i + 1) bs)) _ (ap test (sym step) ∙ e))
    ∙ shifted_next i (first_at test (drop (i + 1) bs)))
