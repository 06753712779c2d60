-- The first number that stands again later is the first that stands on two elements.
use Rattle.std.proofs.Common.{◌≡◌, ℕ, ◌<◌, Bool, true, false, Option, Some, None, List, [], ◌∷◌, ◌++◌, length, get_or, refl, sym, ap, ◌∙◌, arith}
use Rattle.std.specs.Prelude.{◌==◌, ◌&&◌, ◌||◌, not, if◌then◌else◌}
use Rattle.std.specs.List.{list_any}
use Rattle.std.proofs.lemmas.Bool.Decides.{nat_tests}
use Rattle.wt_checks.specs.Ids.{stands, is_repeated}
use Rattle.wt_checks.specs.Places.{Place, number, is_kept, first_after, first}

abbrev pub first_again : List Place → Option ℕ
first_again [] = None
first_again (p ∷ ps) = if is_kept p && stands (number p) ps then Some (number p) else first_again ps

-- the numbers that are noted are those of these places
abbrev pub Noted : List Bool → List Place → Type 0
Noted noted ps = (n : ℕ) → n < length noted → get_or noted n false ≡ (not (n == 0) && stands n ps)

-- a number of one of the first places stands on one of the others
abbrev clash : List Place → List Place → Bool
clash before ps = list_any (λ q. is_kept q && stands (number q) ps) before

pub or_false : (a b : Bool) → (a || b) ≡ false → (a ≡ false) × (b ≡ false)
or_false true b e = absurd (cc)
or_false false b e = (refl, e)

pub and_not : (a b : Bool) → (a && b) ≡ false → a ≡ true → b ≡ false
and_not true b e h = e
and_not false b e h = absurd (cc)

-- the test of a repeated number is symmetric
same_number : (p q : Place) → (number q == number p) ≡ true → number q ≡ number p
same_number p q e = grind (arith, nat_tests)

stands_same : (m n : ℕ) (ps : List Place) → m ≡ n → stands m ps ≡ stands n ps
stands_same m n ps e = ap (λ k. stands k ps) e

stands_first : (p : Place) (ps : List Place) → stands (number p) (p ∷ ps) ≡ true
stands_first p ps = let e : (number p == number p) ≡ true = grind (arith, nat_tests) in rw e

not_before : (p : Place) (before after : List Place) → is_kept p ≡ true → clash before (p ∷ after) ≡ false → stands (number p) before ≡ false
not_before p [] after k c = refl
not_before p (q ∷ before) after k c =
    let h = or_false (is_kept q && stands (number q) (p ∷ after)) (clash before (p ∷ after)) c in
    let r = not_before p before after k h.1 in
    not_before_by p q before after (number q == number p) refl k h.0 r
  where
    not_before_by : (p q : Place) (before after : List Place) (b : Bool) → (number q == number p) ≡ b → is_kept p ≡ true
        → (is_kept q && stands (number q) (p ∷ after)) ≡ false → stands (number p) before ≡ false
        → ((number q == number p) || stands (number p) before) ≡ false
    not_before_by p q before after true e k c r =
        let s : number q ≡ number p = same_number p q e in
        let kq : is_kept q ≡ true = ap (λ n. not (n == 0)) s ∙ k in
        let st : stands (number q) (p ∷ after) ≡ true = stands_same (number q) (number p) (p ∷ after) s ∙ stands_first p after in
        let f : stands (number q) (p ∷ after) ≡ false = and_not (is_kept q) (stands (number q) (p ∷ after)) c kq in
        absurd (cc (st, f))
    not_before_by p q before after false e k c r = rw (e, r)

-- one place more before
pub any_push : (f : Place → Bool) (ps : List Place) (p : Place) → list_any f (ps ++ p ∷ []) ≡ (list_any f ps || f p)
any_push f [] p = or_none (f p)
  where
    or_none : (b : Bool) → (b || false) ≡ b
    or_none true = refl
    or_none false = refl
any_push f (q ∷ ps) p = ap (λ b. f q || b) (any_push f ps p) ∙ or_assoc (f q) (list_any f ps) (f p)
  where
    or_assoc : (a b c : Bool) → (a || (b || c)) ≡ ((a || b) || c)
    or_assoc true b c = refl
    or_assoc false b c = refl

-- fewer places after
clash_fewer : (before : List Place) (p : Place) (after : List Place) → clash before (p ∷ after) ≡ false → clash before after ≡ false
clash_fewer [] p after c = refl
clash_fewer (q ∷ before) p after c =
    let h = or_false (is_kept q && stands (number q) (p ∷ after)) (clash before (p ∷ after)) c in
    let r : clash before after ≡ false = clash_fewer before p after h.1 in
    let s : (is_kept q && stands (number q) after) ≡ false = fewer (is_kept q) (number p == number q) (stands (number q) after) h.0 in
    rw (s, r)
  where
    fewer : (k a b : Bool) → (k && (a || b)) ≡ false → (k && b) ≡ false
    fewer true true b e = absurd (cc)
    fewer true false b e = e
    fewer false a b e = refl

test_same : (k a b : Bool) → (k ≡ true → a ≡ false) → (k && (a || b)) ≡ (k && b)
test_same true a b h = rw (h refl)
test_same false a b h = refl

if_either : {A : Type 0} (b : Bool) (z x y : A) → (b ≡ false → x ≡ y) → (if b then z else x) ≡ (if b then z else y)
if_either true z x y h = refl
if_either false z x y h = h refl

clash_push : (before : List Place) (p : Place) (after : List Place) → clash before (p ∷ after) ≡ false
    → (is_kept p && stands (number p) after) ≡ false → clash (before ++ p ∷ []) after ≡ false
clash_push before p after c e = any_push (λ q. is_kept q && stands (number q) after) before p ∙ rw (clash_fewer before p after c, e)

again_from : (before ps : List Place) → clash before ps ≡ false → first_after is_repeated before ps ≡ first_again ps
again_from before [] c = refl
again_from before (p ∷ after) c =
    let t : is_repeated before p after ≡ (is_kept p && stands (number p) after) = test_same (is_kept p) (stands (number p) before)
    (stands (number p) after) (λ k. not_before p before after k c) in
    ap (λ b. if b then Some (number p) else first_after is_repeated (before ++ p ∷ []) after) t
    ∙ if_either (is_kept p && stands (number p) after) (Some (number p)) (first_after is_repeated (before ++ p ∷ []) after)
    (first_again after) (λ e. again_from (before ++ p ∷ []) after (clash_push before p after c e))

pub again_is_first : (ps : List Place) → first_again ps ≡ first is_repeated ps
again_is_first ps = sym (again_from [] ps refl)
