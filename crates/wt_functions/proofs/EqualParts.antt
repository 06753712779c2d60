-- The first part that is equal to part 0, and what a further text changes.
use Rattle.std.proofs.Common.{◌≡◌, refl, sym, ◌∙◌, ap, ℕ, suc, zero, ◌+◌, ◌<◌, ◌≤◌, Bool, true, false, cond, Option, Some, None, List, [], ◌∷◌, ◌++◌, length, get_or, nat_lt, arith, one-add, subst, min}
use Rattle.std.proofs.lemmas.List.Quantifiers.{position-Some}
use Rattle.std.proofs.lemmas.Iterator.Adapters.{position_from-zero}
use Rattle.std.specs.List.{position, position_from}
use Rattle.std.specs.Option.{option_map, option_or, is_some, unwrap_or}
use Rattle.std.specs.Str.{bytes_eq}
use Rattle.wt_functions.specs.Choice.{Telling, text_at, equal_part, told_count, chosen, given, asked, is_tell}
use Rattle.wt_span.specs.declared.function.Function.{Function}
use Rattle.wt_span.specs.declared.function.Function.TheVariants.{If, IfEq, Switch}
use Rattle.wt_functions.specs.declared.chooser.Ask.{Ask}
use Rattle.wt_functions.specs.declared.chooser.Ask.TheVariants.{Tell, Give, Nothing}
use borrow.Author.Tests.{ltb-true}

abbrev if_passes : {A : Type 0} → (A → Bool) → A → ℕ → Option ℕ
if_passes p x n = cond (p x) (Some n) None

from_push : {A : Type 0} (p : A → Bool) (i : ℕ) (xs : List A) (x : A) → position_from p i (xs ++ x ∷ []) ≡ option_or (position_from p i xs) (if_passes p x (i + length xs))
from_push p i [] x = elim (p x) as (λ b. cond b (Some i) None ≡ cond b (Some (i + 0)) None) [ true ↦ ap Some (omega arith) | false ↦ refl ]
from_push p i (y ∷ ys) x = elim (p y) as (λ b. cond b (Some i) (position_from p (i + 1) (ys ++ x ∷ [])) ≡ option_or (cond b (Some i) (position_from p (i + 1) ys)) (if_passes p x (i + suc (length ys)))) [
  | true ↦ refl
  | false ↦ from_push p (i + 1) ys x ∙ ap (λ n. option_or (position_from p (i + 1) ys) (if_passes p x n)) (let e : (i + 1) + length ys ≡ i + suc (length ys) = omega arith in e)
]

from_zero : {A : Type 0} (p : A → Bool) (xs : List A) → position p xs ≡ position_from p 0 xs
from_zero p xs = position_from-zero p xs

position_push : {A : Type 0} (p : A → Bool) (xs : List A) (x : A) → position p (xs ++ x ∷ []) ≡ option_or (position p xs) (if_passes p x (length xs))
position_push p xs x = from_zero p (xs ++ x ∷ []) ∙ from_push p 0 xs x ∙ ap (λ n. option_or (position_from p 0 xs) (if_passes p x n)) (let e : 0 + length xs ≡ length xs = omega arith in e) ∙ ap (λ o. option_or o (if_passes p x (length xs))) (sym (from_zero p xs))

others_by : (p : List ℕ → Bool) (t : List ℕ) (ts : List (List ℕ)) (j : ℕ) → ((i : ℕ) → i < j → p (get_or ts i []) ≡ false) → (i : ℕ) → 0 < i → i < suc j → p (get_or (t ∷ ts) i []) ≡ false
others_by p t ts j all zero low high = absurd (omega arith)
others_by p t ts j all (suc i) low high = all i (omega arith)

-- what the first place of a test tells: it lies behind part 0, it was told, it passes, and none before it does
pub record IsFirst (p : List ℕ → Bool) (ts : List (List ℕ)) (k : ℕ) : Type 0 where
  pub behind : 0 < k
  pub told : k < length ts
  pub passes : p (get_or ts k []) ≡ true
  pub others : (j : ℕ) → 0 < j → j < k → p (get_or ts j []) ≡ false

first_by : (p : List ℕ → Bool) (t : List ℕ) (ts : List (List ℕ)) (k : ℕ) (o : Option ℕ) → position p ts ≡ o → option_map (λ j. 1 + j) o ≡ Some k → IsFirst p (t ∷ ts) k
first_by p t ts k None e h = cc
first_by p t ts k (Some j) e h =
    let s : (j < length ts) × (p (get_or ts j []) ≡ true) × ((i : ℕ) → i < j → p (get_or ts i []) ≡ false) = position-Some p ts j [] e in
    let m : suc j ≡ k = sym (one-add j) ∙ (let q : 1 + j ≡ k = cc in q) in
    subst (λ n. IsFirst p (t ∷ ts) n) m (record {
      behind = omega arith;
      told = let l : j < length ts = s.0 in omega arith;
      passes = s.1;
      others = λ i low high. others_by p t ts j s.2 i low high;
    })

-- the first equal part
pub equal_part_first : (ts : List (List ℕ)) (k : ℕ) → equal_part ts ≡ Some k → IsFirst (λ t. bytes_eq t (text_at ts 0)) ts k
unfolding equal_part
equal_part_first [] k e = cc
equal_part_first (t ∷ ts) k e = first_by (λ x. bytes_eq x t) t ts k (position (λ x. bytes_eq x t) ts) refl e

map_push : (o : Option ℕ) (b : Bool) (n : ℕ) → option_map (λ j. 1 + j) (option_or o (cond b (Some n) None)) ≡ option_or (option_map (λ j. 1 + j) o) (cond b (Some (suc n)) None)
map_push None true n = ap Some (one-add n)
map_push None false n = refl
map_push (Some k) b n = refl

-- a further text is the first equal one where none was before and it is equal
pub equal_part_push : (t : List ℕ) (ts : List (List ℕ)) (x : List ℕ) → equal_part ((t ∷ ts) ++ x ∷ []) ≡ option_or (equal_part (t ∷ ts)) (cond (bytes_eq x t) (Some (length (t ∷ ts))) None)
unfolding equal_part
equal_part_push t ts x =
    ap (λ o. option_map (λ j. 1 + j) o) (position_push (λ y. bytes_eq y t) ts x)
    ∙ map_push (position (λ y. bytes_eq y t) ts) (bytes_eq x t) (length ts)

pub equal_part_alone : (x : List ℕ) → equal_part ([] ++ x ∷ []) ≡ None
unfolding equal_part
equal_part_alone x = refl

equal_part_nothing : equal_part [] ≡ None
unfolding equal_part
equal_part_nothing = refl

or_none : (o : Option ℕ) → option_or o None ≡ o
or_none None = refl
or_none (Some k) = refl

none_of : (o : Option ℕ) → is_some o ≡ false → o ≡ None
none_of None h = refl
none_of (Some k) h = cc

kept : (o p : Option ℕ) → is_some o ≡ true → option_or o p ≡ o
kept None p h = cc
kept (Some k) p h = refl

-- one more text: where a part was equal before, it stays the first one
pub stays : (ts : List (List ℕ)) (x : List ℕ) → is_some (equal_part ts) ≡ true → equal_part (ts ++ x ∷ []) ≡ equal_part ts
stays [] x h = cc (equal_part_nothing, h)
stays (t ∷ ts) x h = equal_part_push t ts x ∙ kept (equal_part (t ∷ ts)) (cond (bytes_eq x t) (Some (length (t ∷ ts))) None) h

-- it is the first one itself
pub becomes : (ts : List (List ℕ)) (x first : List ℕ) → is_some (equal_part ts) ≡ false → 1 ≤ length ts → first ≡ get_or ts 0 first → bytes_eq x first ≡ true → equal_part (ts ++ x ∷ []) ≡ Some (length ts)
becomes [] x first e h f q = absurd (omega arith)
becomes (t ∷ ts) x first e h f q = let p : bytes_eq x t ≡ true = ap (λ y. bytes_eq x y) (sym f) ∙ q in let n : equal_part (t ∷ ts) ≡ None = none_of (equal_part (t ∷ ts)) e in rw (equal_part_push t ts x, n, p)

-- it isn't
pub differs : (ts : List (List ℕ)) (x first : List ℕ) → 1 ≤ length ts → first ≡ get_or ts 0 first → bytes_eq x first ≡ false → equal_part (ts ++ x ∷ []) ≡ equal_part ts
differs [] x first h f q = absurd (omega arith)
differs (t ∷ ts) x first h f q = let p : bytes_eq x t ≡ false = ap (λ y. bytes_eq x y) (sym f) ∙ q in rw (equal_part_push t ts x, p, or_none)

-- it is part 0
pub starts : (ts : List (List ℕ)) (x : List ℕ) → length ts < 1 → equal_part (ts ++ x ∷ []) ≡ equal_part ts
starts [] x h = equal_part_alone x ∙ sym equal_part_nothing
starts (t ∷ ts) x h = absurd (omega arith)

-- where a text is asked for, its part is there
unwrap_within : (ts : List (List ℕ)) (n : ℕ) (o : Option ℕ) → equal_part ts ≡ o → length ts < 1 + unwrap_or o n → length ts < 1 + n
unwrap_within ts n None e h = h
unwrap_within ts n (Some k) e h = let first : IsFirst (λ t. bytes_eq t (text_at ts 0)) ts k = equal_part_first ts k e in absurd (omega arith)

pub told_within : (f : Function) (es : List Bool) (ts : List (List ℕ)) → length ts < told_count f es ts → length ts ≤ length es
unfolding told_count
told_within If es ts h = omega arith
told_within IfEq es ts h = let m : min 1 (length es) ≤ length es = omega arith in omega arith
told_within Switch es ts h = let b : length ts < 1 + length es = unwrap_within ts (length es) (equal_part ts) refl h in omega arith

tell_by : (b : Bool) (n k : ℕ) (o : Option ℕ) → cond b (Tell n) (given o) ≡ Tell k → (b ≡ true) × (n ≡ k)
tell_by true n k o h = (refl, cc)
tell_by false n k None h = cc
tell_by false n k (Some j) h = cc

pub asked_part : (t : Telling) (k : ℕ) → asked t ≡ Tell k → (length t.texts ≡ k) × (length t.texts ≤ length t.equals)
unfolding asked
asked_part t k h =
    let b : (nat_lt (length t.texts) (told_count t.function t.equals t.texts) ≡ true) × (length t.texts ≡ k) = tell_by (nat_lt (length t.texts) (told_count t.function t.equals t.texts)) (length t.texts) k (chosen t.function t.equals t.texts) h in
    (b.1, told_within t.function t.equals t.texts (ltb-true _ _ b.0))

-- where a text is to be told, its part is there
told_by : (t : Telling) (a : Ask) → asked t ≡ a → is_tell a ≡ true → length t.texts ≤ length t.equals
told_by t (Tell k) e h = (asked_part t k e).1
told_by t (Give k) e h = cc
told_by t Nothing e h = cc

pub told_there : (t : Telling) → is_tell (asked t) ≡ true → length t.texts ≤ length t.equals
told_there t h = told_by t (asked t) refl h

-- ---- where no part is equal

or_else_by : (b : Bool) (i : ℕ) (o : Option ℕ) → cond b (Some i) o ≡ None → (b ≡ false) × (o ≡ None)
or_else_by true i o h = cc
or_else_by false i o h = (refl, h)

from_none : {A : Type 0} (p : A → Bool) (i : ℕ) (xs : List A) (k : ℕ) (d : A) → position_from p i xs ≡ None → k < length xs → p (get_or xs k d) ≡ false
from_none p i [] k d h l = absurd (omega arith)
from_none p i (x ∷ xs) zero d h l = (or_else_by (p x) i (position_from p (i + 1) xs) h).0
from_none p i (x ∷ xs) (suc k) d h l = from_none p (i + 1) xs k d (or_else_by (p x) i (position_from p (i + 1) xs) h).1 (omega arith)

pub none_passes : {A : Type 0} (p : A → Bool) (xs : List A) (k : ℕ) (d : A) → position p xs ≡ None → k < length xs → p (get_or xs k d) ≡ false
none_passes p xs k d h l = from_none p 0 xs k d (sym (from_zero p xs) ∙ h) l

map_none : (o : Option ℕ) → option_map (λ j. 1 + j) o ≡ None → o ≡ None
map_none None h = refl
map_none (Some k) h = cc

pub equal_part_none : (ts : List (List ℕ)) (j : ℕ) → equal_part ts ≡ None → 0 < j → j < length ts → bytes_eq (get_or ts j []) (get_or ts 0 []) ≡ false
unfolding equal_part
equal_part_none [] j h some l = absurd (omega arith)
equal_part_none (t ∷ ts) zero h some l = absurd (omega arith)
equal_part_none (t ∷ ts) (suc j) h some l = none_passes (λ y. bytes_eq y t) ts j [] (map_none (position (λ y. bytes_eq y t) ts) h) (omega arith)
