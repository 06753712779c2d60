-- Stretches within stretches.
use Rattle.std.proofs.Common.{◌≡◌, ℕ, suc, ◌+◌, ◌<◌, ◌≤◌, Bool, true, false, cond, Option, Some, List, [], ◌∷◌, ◌++◌, length, drop, refl, sym, ap, ◌∙◌, arith, append_assoc, length-append}
use Rattle.std.specs.Prelude.{nat_lt}
use Rattle.std.proofs.lemmas.Bool.Decides.{nat_tests}
use Rattle.wt_span.specs.Braces.{Member, Members, lexeme, call, none, more, members, listed, width, width_of_all, CallAt, call_count, call_count_of_all, calls_of, calls_of_all}
use Rattle.wt_transclusion.specs.Stretch.{IsFull, AreFull, AllFull, calls_before, BeginBehind}

-- ---- lists of members

pub width_append : (xs ys : List Member) → width_of_all (members (xs ++ ys)) ≡ width_of_all (members xs) + width_of_all (members ys)
width_append [] ys = omega arith
width_append (x ∷ xs) ys = omega (arith, width_append xs ys)

pub full_front : (xs ys : List Member) → AllFull (xs ++ ys) → AllFull xs
full_front [] ys f = tt
full_front (x ∷ xs) ys f = (f.0, full_front xs ys f.1)

pub full_back : (xs ys : List Member) → AllFull (xs ++ ys) → AllFull ys
full_back [] ys f = f
full_back (x ∷ xs) ys f = full_back xs ys f.1

pub full_listed : (ms : Members) → AreFull ms → AllFull (listed ms)
full_listed none f = tt
full_listed (more m ms) f = (f.0, full_listed ms f.1)

pub full_members : (xs : List Member) → AllFull xs → AreFull (members xs)
full_members [] f = tt
full_members (x ∷ xs) f = (f.0, full_members xs f.1)

pub members_listed : (ms : Members) → members (listed ms) ≡ ms
members_listed none = refl
members_listed (more m ms) = ap (more m) (members_listed ms)

pub calls_append : (at : ℕ) (parent : Option ℕ) (n : ℕ) (xs ys : List Member) → calls_of_all at parent n (members (xs ++ ys))
    ≡ calls_of_all at parent n (members xs) ++ calls_of_all (at + width_of_all (members xs)) parent (n + call_count_of_all (members xs)) (members ys)
calls_append at parent n [] ys =
    let a : at ≡ at + 0 = omega arith in
    let b : n ≡ n + 0 = omega arith in
    ap (λ k. calls_of_all k parent n (members ys)) a ∙ ap (λ k. calls_of_all (at + 0) parent k (members ys)) b
calls_append at parent n (x ∷ xs) ys =
    let a : at + width x + width_of_all (members xs) ≡ at + (width x + width_of_all (members xs)) = omega arith in
    let b : n + call_count x + call_count_of_all (members xs) ≡ n + (call_count x + call_count_of_all (members xs)) = omega arith in
    ap (λ cs. calls_of at parent n x ++ cs) (calls_append (at + width x) parent (n + call_count x) xs ys)
    ∙ sym (append_assoc (calls_of at parent n x) _ _)
    ∙ ap (λ k. calls_of_all at parent n (members (x ∷ xs)) ++ calls_of_all k parent (n + call_count x + call_count_of_all (members xs)) (members ys)) a
    ∙ ap (λ k. calls_of_all at parent n (members (x ∷ xs)) ++ calls_of_all (at + (width x + width_of_all (members xs))) parent k (members ys)) b

-- ---- where calls begin

-- in front of a place
abbrev pub AllBelow : ℕ → List CallAt → Type 0
AllBelow p [] = Unit {0}
AllBelow p (c ∷ cs) = (c.from < p) × AllBelow p cs

below_append : (p : ℕ) (cs ds : List CallAt) → AllBelow p cs → AllBelow p ds → AllBelow p (cs ++ ds)
below_append p [] ds f g = g
below_append p (c ∷ cs) ds f g = (f.0, below_append p cs ds f.1 g)

below_later : (p q : ℕ) (cs : List CallAt) → p ≤ q → AllBelow p cs → AllBelow q cs
below_later p q [] l f = tt
below_later p q (c ∷ cs) l f = (omega (arith, l, f.0), below_later p q cs l f.1)

mutual
  below_one : (at : ℕ) (parent : Option ℕ) (n : ℕ) (m : Member) → IsFull m → AllBelow (at + width m) (calls_of at parent n m)
  below_one at parent n (lexeme (kind, k)) f = tt
  below_one at parent n (call k ms) f = (
    omega (arith, f.0),
    below_later (at + k + width_of_all ms) (at + (k + width_of_all ms + k)) (calls_of_all (at + k) (Some n) (n + 1) ms) (omega arith)
        (below_all (at + k) (Some n) (n + 1) ms f.1),
  )

  pub below_all : (at : ℕ) (parent : Option ℕ) (n : ℕ) (ms : Members) → AreFull ms → AllBelow (at + width_of_all ms) (calls_of_all at parent n ms)
  below_all at parent n none f = tt
  below_all at parent n (more m ms) f =
      below_append (at + (width m + width_of_all ms)) (calls_of at parent n m) (calls_of_all (at + width m) parent (n + call_count m) ms)
      (below_later (at + width m) (at + (width m + width_of_all ms)) (calls_of at parent n m) (omega arith) (below_one at parent n m f.0))
      (below_later (at + width m + width_of_all ms) (at + (width m + width_of_all ms)) (calls_of_all (at + width m) parent (n + call_count m) ms) (omega arith)
      (below_all (at + width m) parent (n + call_count m) ms f.1))

pub behind_later : (p q : ℕ) (cs : List CallAt) → p ≤ q → BeginBehind q cs → BeginBehind p cs
behind_later p q [] l f = tt
behind_later p q (c ∷ cs) l f = omega (arith, l, f)

pub behind_all : (at : ℕ) (parent : Option ℕ) (n : ℕ) (xs : List Member) (after : List CallAt) → BeginBehind (at + width_of_all (members xs)) after
    → BeginBehind at (calls_of_all at parent n (members xs) ++ after)
behind_all at parent n [] after f = behind_later at (at + 0) after (omega arith) f
behind_all at parent n (lexeme (kind, k) ∷ xs) after f =
    behind_later at (at + k) (calls_of_all (at + k) parent (n + 0) (members xs) ++ after) (omega arith)
    (behind_all (at + k) parent (n + 0) xs after
    (behind_later (at + k + width_of_all (members xs)) (at + (k + width_of_all (members xs))) after (omega arith) f))
behind_all at parent n (call k ms ∷ xs) after f = omega arith

mutual
  count_one : (at : ℕ) (parent : Option ℕ) (n : ℕ) (m : Member) → length (calls_of at parent n m) ≡ call_count m
  count_one at parent n (lexeme (kind, k)) = refl
  count_one at parent n (call k ms) = let e = count_all (at + k) (Some n) (n + 1) ms in omega (arith, e)

  pub count_all : (at : ℕ) (parent : Option ℕ) (n : ℕ) (ms : Members) → length (calls_of_all at parent n ms) ≡ call_count_of_all ms
  count_all at parent n none = refl
  count_all at parent n (more m ms) =
      let a = length-append (calls_of at parent n m) (calls_of_all (at + width m) parent (n + call_count m) ms) in
      let b = count_one at parent n m in
      let c = count_all (at + width m) parent (n + call_count m) ms in
      omega (arith, a, b, c)

pub lt_true : (a b : ℕ) → a < b → nat_lt a b ≡ true
lt_true a b l = grind (arith, nat_tests)

pub lt_false : (a b : ℕ) → b ≤ a → nat_lt a b ≡ false
lt_false a b l = grind (arith, nat_tests)

before_below : (q : ℕ) (mid rest : List CallAt) → AllBelow q mid → BeginBehind q rest → calls_before q (mid ++ rest) ≡ length mid
before_below q [] [] f g = refl
before_below q [] (c ∷ rest) f g = ap (λ t. cond t (1 + calls_before q rest) 0) (lt_false c.from q g)
before_below q (c ∷ mid) rest f g =
    let e = before_below q mid rest f.1 g in
    ap (λ t. cond t (1 + calls_before q (mid ++ rest)) 0) (lt_true c.from q f.0) ∙ omega (arith, e)

-- The calls in front of a later place are these and those that begin between the two.
pub before_more : (p q : ℕ) (cs mid rest : List CallAt) → p ≤ q → drop (calls_before p cs) cs ≡ mid ++ rest → AllBelow q mid → BeginBehind q rest
    → calls_before q cs ≡ calls_before p cs + length mid
before_more p q [] mid rest l e f g = before_more_none mid rest e
  where
    before_more_none : (mid rest : List CallAt) → [] ≡ mid ++ rest → 0 ≡ 0 + length mid
    before_more_none [] rest e = refl
    before_more_none (c ∷ mid) rest e = absurd (let z : [] ≡ c ∷ (mid ++ rest) = e in cc)
before_more p q (c ∷ cs) mid rest l e f g = by_test (nat_lt c.from p) refl (λ h. before_more p q cs mid rest l h f g) e
  where
    by_test : (t : Bool) → nat_lt c.from p ≡ t → (drop (calls_before p cs) cs ≡ mid ++ rest → calls_before q cs ≡ calls_before p cs + length mid)
        → drop (cond t (1 + calls_before p cs) 0) (c ∷ cs) ≡ mid ++ rest → calls_before q (c ∷ cs) ≡ cond t (1 + calls_before p cs) 0 + length mid
    by_test true is on h =
        let z : suc (calls_before p cs) ≡ 1 + calls_before p cs = omega arith in
        let low : c.from < p = grind (arith, nat_tests) in
        let n = on (ap (λ k. drop k (c ∷ cs)) z ∙ h) in
        ap (λ t. cond t (1 + calls_before q cs) 0) (lt_true c.from q (omega (arith, low, l))) ∙ omega (arith, n)
    by_test false is on h = ap (calls_before q) h ∙ before_below q mid rest f g ∙ omega arith
