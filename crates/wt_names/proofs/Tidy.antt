-- Texts with single spaces and none at their ends.
use Rattle.std.proofs.Common.{◌≡◌, ℕ, ◌<◌, Bool, true, false, cond, ◌&&◌, nat_eq, List, [], ◌∷◌, ◌++◌, length, refl, sym, ap, ◌∙◌, length-append, arith}
use Rattle.std.specs.Char.{to_ascii_uppercase}
use Rattle.std.proofs.lemmas.Bool.{cond_both, cond-false, eq-eqb, eqb-true}
use Rattle.std.proofs.lemmas.Bool.Decides.{nat_tests}
use Rattle.wt_names.specs.Reading.{squeezed, begins_with_space, trimmed_start, trimmed_end, trimmed, raised}
use Rattle.wt_names.proofs.Cuts.{differs}

-- no space stands before another one
abbrev pub IsSingle : List ℕ → Type 0
IsSingle [] = Unit {0}
IsSingle (b ∷ bs) = (b ≡ 32 → begins_with_space bs ≡ false) × IsSingle bs

begins_squeezed : (bs : List ℕ) → begins_with_space bs ≡ false → begins_with_space (squeezed bs) ≡ false
begins_squeezed [] e = refl
begins_squeezed (b ∷ bs) e =
    cond_both (nat_eq b 32 && begins_with_space bs) (squeezed bs) (b ∷ squeezed bs) (λ x. begins_with_space x ≡ false)
    (λ t. absurd (let z : nat_eq b 32 ≡ false = e in grind (arith, t))) (λ _. e)

pub single_squeezed : (bs : List ℕ) → IsSingle (squeezed bs)
single_squeezed [] = tt
single_squeezed (b ∷ bs) =
    cond_both (nat_eq b 32 && begins_with_space bs) (squeezed bs) (b ∷ squeezed bs) IsSingle (λ _. single_squeezed bs)
    (λ t. ((λ e. begins_squeezed bs (sym (ap (λ u. u && begins_with_space bs) (eq-eqb b 32 e)) ∙ t)), single_squeezed bs))

kept : (t u : Bool) → (t ≡ true → u ≡ false) → (t && u) ≡ false
kept true u h = h refl
kept false u h = refl

pub squeezed_single : (bs : List ℕ) → IsSingle bs → squeezed bs ≡ bs
squeezed_single [] s = refl
squeezed_single (b ∷ bs) s =
    cond-false (nat_eq b 32 && begins_with_space bs) (squeezed bs) (b ∷ squeezed bs) (kept (nat_eq b 32) (begins_with_space bs) (λ t. s.0 (eqb-true b 32 t)))
    ∙ ap (λ x. b ∷ x) (squeezed_single bs s.1)

begins_left : (xs ys : List ℕ) → begins_with_space (xs ++ ys) ≡ false → begins_with_space xs ≡ false
begins_left [] ys e = refl
begins_left (x ∷ xs) ys e = e

pub single_left : (xs ys : List ℕ) → IsSingle (xs ++ ys) → IsSingle xs
single_left [] ys s = tt
single_left (x ∷ xs) ys s = ((λ e. begins_left xs ys (s.0 e)), single_left xs ys s.1)

pub single_right : (xs ys : List ℕ) → IsSingle (xs ++ ys) → IsSingle ys
single_right [] ys s = s
single_right (x ∷ xs) ys s = single_right xs ys s.1

pub single_trimmed_start : (bs : List ℕ) → IsSingle bs → IsSingle (trimmed_start bs)
single_trimmed_start [] s = tt
single_trimmed_start (b ∷ bs) s = cond_both (nat_eq b 32) (trimmed_start bs) (b ∷ bs) IsSingle (λ _. single_trimmed_start bs s.1) (λ _. s)

begins_trimmed_end : (bs : List ℕ) → begins_with_space bs ≡ false → begins_with_space (trimmed_end bs) ≡ false
begins_trimmed_end [] e = refl
begins_trimmed_end (b ∷ bs) e = cond_both (nat_eq b 32 && nat_eq (length (trimmed_end bs)) 0) [] (b ∷ trimmed_end bs)
    (λ x. begins_with_space x ≡ false) (λ _. refl) (λ _. e)

pub single_trimmed_end : (bs : List ℕ) → IsSingle bs → IsSingle (trimmed_end bs)
single_trimmed_end [] s = tt
single_trimmed_end (b ∷ bs) s =
    cond_both (nat_eq b 32 && nat_eq (length (trimmed_end bs)) 0) [] (b ∷ trimmed_end bs) IsSingle (λ _. tt)
    (λ _. ((λ e. begins_trimmed_end bs (s.0 e)), single_trimmed_end bs s.1))

pub single_trimmed : (bs : List ℕ) → IsSingle bs → IsSingle (trimmed bs)
single_trimmed bs s = single_trimmed_end (trimmed_start bs) (single_trimmed_start bs s)

-- ---- the ends

begins_trimmed_start : (bs : List ℕ) → begins_with_space (trimmed_start bs) ≡ false
begins_trimmed_start [] = refl
begins_trimmed_start (b ∷ bs) = cond_both (nat_eq b 32) (trimmed_start bs) (b ∷ bs) (λ x. begins_with_space x ≡ false) (λ _. begins_trimmed_start bs) (λ e. e)

pub begins_trimmed : (bs : List ℕ) → begins_with_space (trimmed bs) ≡ false
begins_trimmed bs = begins_trimmed_end (trimmed_start bs) (begins_trimmed_start bs)

pub trimmed_start_same : (bs : List ℕ) → begins_with_space bs ≡ false → trimmed_start bs ≡ bs
trimmed_start_same [] e = refl
trimmed_start_same (b ∷ bs) e = cond-false (nat_eq b 32) (trimmed_start bs) (b ∷ bs) e

trimmed_end_again : (t : Bool) (b : ℕ) (bs : List ℕ) → (nat_eq b 32 && nat_eq (length bs) 0) ≡ t → trimmed_end bs ≡ bs
    → trimmed_end (cond t [] (b ∷ bs)) ≡ cond t [] (b ∷ bs)
trimmed_end_again true b bs e same = refl
trimmed_end_again false b bs e same = ap (λ x. cond (nat_eq b 32 && nat_eq (length x) 0) [] (b ∷ x)) same ∙ ap (λ t. cond t [] (b ∷ bs)) e

pub trimmed_end-trimmed_end : (bs : List ℕ) → trimmed_end (trimmed_end bs) ≡ trimmed_end bs
trimmed_end-trimmed_end [] = refl
trimmed_end-trimmed_end (b ∷ bs) = trimmed_end_again (nat_eq b 32 && nat_eq (length (trimmed_end bs)) 0) b (trimmed_end bs) refl (trimmed_end-trimmed_end bs)

pub trimmed_same : (bs : List ℕ) → begins_with_space bs ≡ false → trimmed_end bs ≡ bs → trimmed bs ≡ bs
trimmed_same bs start end = ap trimmed_end (trimmed_start_same bs start) ∙ end

pub trimmed-trimmed : (bs : List ℕ) → trimmed (trimmed bs) ≡ trimmed bs
trimmed-trimmed bs = trimmed_same (trimmed bs) (begins_trimmed bs) (trimmed_end-trimmed_end (trimmed_start bs))

-- what a text that is trimmed already is like
pub begins_same : (bs : List ℕ) → trimmed bs ≡ bs → begins_with_space bs ≡ false
begins_same bs e = ap begins_with_space (sym e) ∙ begins_trimmed bs

pub ends_same : (bs : List ℕ) → trimmed bs ≡ bs → trimmed_end bs ≡ bs
ends_same bs e = ap trimmed_end (sym (trimmed_start_same bs (begins_same bs e))) ∙ e

-- an end stays one behind a front
not_empty : (t : Bool) (x : ℕ) (xs : List ℕ) → 0 < length xs → cond (t && nat_eq (length xs) 0) [] (x ∷ xs) ≡ x ∷ xs
not_empty true x xs some = cond-false (nat_eq (length xs) 0) [] (x ∷ xs) (differs (length xs) 0 (λ e. omega arith))
not_empty false x xs some = refl

pub trimmed_end-append : (xs ys : List ℕ) → 0 < length ys → trimmed_end ys ≡ ys → trimmed_end (xs ++ ys) ≡ xs ++ ys
trimmed_end-append [] ys some e = e
trimmed_end-append (x ∷ xs) ys some e =
    ap (λ t. cond (nat_eq x 32 && nat_eq (length t) 0) [] (x ∷ t)) (trimmed_end-append xs ys some e)
    ∙ not_empty (nat_eq x 32) x (xs ++ ys) (simp length-append (omega arith))

-- ---- the first letter raised

pub upper_space : (b : ℕ) → nat_eq (to_ascii_uppercase b) 32 ≡ nat_eq b 32
upper_space b = grind (arith, nat_tests)

pub begins_raised : (bs : List ℕ) → begins_with_space (raised bs) ≡ begins_with_space bs
begins_raised [] = refl
begins_raised (b ∷ bs) = upper_space b

pub single_raised : (bs : List ℕ) → IsSingle bs → IsSingle (raised bs)
single_raised [] s = tt
single_raised (b ∷ bs) s = ((λ e. s.0 (eqb-true b 32 (sym (upper_space b) ∙ eq-eqb (to_ascii_uppercase b) 32 e))), s.1)

other_first : (t u : Bool) (b : ℕ) (bs : List ℕ) → t ≡ false → cond (t && u) [] (b ∷ bs) ≡ b ∷ bs
other_first t u b bs e = ap (λ s. cond (s && u) [] (b ∷ bs)) e

pub ends_raised : (bs : List ℕ) → begins_with_space bs ≡ false → trimmed_end bs ≡ bs → trimmed_end (raised bs) ≡ raised bs
ends_raised [] start end = refl
ends_raised (b ∷ bs) start end =
    let empty = nat_eq (length (trimmed_end bs)) 0 in
    let whole : b ∷ trimmed_end bs ≡ b ∷ bs = sym (other_first (nat_eq b 32) empty b (trimmed_end bs) start) ∙ end in
    let rest : trimmed_end bs ≡ bs = cc in
    other_first (nat_eq (to_ascii_uppercase b) 32) empty (to_ascii_uppercase b) (trimmed_end bs) (upper_space b ∙ start)
    ∙ ap (λ x. to_ascii_uppercase b ∷ x) rest

pub trimmed-raised : (bs : List ℕ) → trimmed bs ≡ bs → trimmed (raised bs) ≡ raised bs
trimmed-raised bs e = trimmed_same (raised bs) (begins_raised bs ∙ begins_same bs e) (ends_raised bs (begins_same bs e) (ends_same bs e))

upper_upper : (b : ℕ) → to_ascii_uppercase (to_ascii_uppercase b) ≡ to_ascii_uppercase b
upper_upper b = grind (arith, nat_tests)

pub raised-raised : (bs : List ℕ) → raised (raised bs) ≡ raised bs
raised-raised [] = refl
raised-raised (b ∷ bs) = ap (λ c. c ∷ bs) (upper_upper b)
