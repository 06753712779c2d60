-- What the front of a text says of the text, and the text of its front.
use Rattle.std.proofs.Common.{◌≡◌, ℕ, zero, suc, ◌+◌, ◌-◌, ◌<◌, ◌≤◌, Bool, true, false, cond, List, [], ◌∷◌, length, get_or, take, drop, nat_eq, refl, sym, ap, ◌∙◌, arith, length-take}
use Rattle.std.specs.Prelude.{if◌then◌else◌, ◌&&◌}
use Rattle.std.specs.Char.{is_ascii_alphabetic, is_ascii_alphanumeric}
use Rattle.std.specs.List.{prefix_len}
use Rattle.std.specs.Cmp.Lexicographic.{pointwise}
use Rattle.std.proofs.lemmas.List.{get_or-take, drop-take}
use Rattle.wt_span.specs.Bytes.{begins, through, name_len}
use Rattle.wt_lex.proofs.Begins.{and_left, and_right}

and_both : (a b : Bool) → a ≡ true → b ≡ true → (a && b) ≡ true
and_both true b e f = f
and_both false b e f = e

no_more : (a b : Bool) → (a ≡ true → b ≡ true) → b ≡ false → a ≡ false
no_more true b f e = let h : true ≡ false = sym (f refl) ∙ e in cc
no_more false b f e = refl

-- a front of a front's rest
pub drop_front : (k m : ℕ) (bs : List ℕ) → k ≤ m → drop k (take m bs) ≡ take (m - k) (drop k bs)
drop_front k m bs le =
    let e : m ≡ k + (m - k) = omega arith in
    ap (λ (n : ℕ). drop k (take n bs)) e ∙ drop-take k (m - k) bs

-- ---- words

pub begins_more : (word bs : List ℕ) (n : ℕ) → begins word (take n bs) ≡ true → begins word bs ≡ true
begins_more [] [] n e = refl
begins_more [] (b ∷ bs) n e = refl
begins_more (x ∷ word) [] zero e = cc
begins_more (x ∷ word) [] (suc n) e = cc
begins_more (x ∷ word) (b ∷ bs) zero e = cc
begins_more (x ∷ word) (b ∷ bs) (suc n) e =
    and_both (nat_eq x b) (pointwise nat_eq word (take (length word) bs)) (and_left (nat_eq x b) (pointwise nat_eq word (take (length word) (take n bs))) e)
    (begins_more word bs n (and_right (nat_eq x b) (pointwise nat_eq word (take (length word) (take n bs))) e))

pub begins_front : (word bs : List ℕ) (n : ℕ) → length word ≤ n → begins word bs ≡ true → begins word (take n bs) ≡ true
begins_front [] [] zero le e = refl
begins_front [] [] (suc n) le e = refl
begins_front [] (b ∷ bs) zero le e = refl
begins_front [] (b ∷ bs) (suc n) le e = refl
begins_front (x ∷ word) [] n le e = cc
begins_front (x ∷ word) (b ∷ bs) zero le e = absurd (omega arith)
begins_front (x ∷ word) (b ∷ bs) (suc n) le e =
    and_both (nat_eq x b) (pointwise nat_eq word (take (length word) (take n bs))) (and_left (nat_eq x b) (pointwise nat_eq word (take (length word) bs)) e)
    (begins_front word bs n (omega arith) (and_right (nat_eq x b) (pointwise nat_eq word (take (length word) bs)) e))

pub begins_none : (word bs : List ℕ) (n : ℕ) → begins word bs ≡ false → begins word (take n bs) ≡ false
begins_none word bs n e = no_more (begins word (take n bs)) (begins word bs) (begins_more word bs n) e

through_by : (t u : Bool) (l m n : ℕ) → t ≡ u → (u ≡ false → m ≡ n) → (if t then l else 1 + m) ≡ (if u then l else 1 + n)
through_by true true l m n e f = refl
through_by true false l m n e f = cc
through_by false true l m n e f = cc
through_by false false l m n e f = ap (λ k. 1 + k) (f refl)

same_test : (word : List ℕ) (b : ℕ) (bs : List ℕ) (m : ℕ) (u : Bool) → begins word (b ∷ bs) ≡ u → (u ≡ true → length word ≤ suc m)
    → begins word (b ∷ take m bs) ≡ u
same_test word b bs m true e le = begins_front word (b ∷ bs) (suc m) (le refl) e
same_test word b bs m false e le = begins_none word (b ∷ bs) (suc m) e

word_le : (u : Bool) (l n m : ℕ) → (if u then l else 1 + n) ≤ m → u ≡ true → l ≤ m
word_le true l n m h e = h
word_le false l n m h e = cc

rest_le : (u : Bool) (l n m : ℕ) → (if u then l else 1 + n) ≤ suc m → u ≡ false → n ≤ m
rest_le true l n m h e = cc
rest_le false l n m h e = omega arith

pub through_front : (word bs : List ℕ) (m : ℕ) → 0 < length word → through word bs ≤ m → through word (take m bs) ≡ through word bs
through_front word [] zero pos le = refl
through_front word [] (suc m) pos le = refl
through_front word (b ∷ bs) zero pos le = absurd (none_zero (begins word (b ∷ bs)) le)
  where
    none_zero : (u : Bool) → (if u then length word else 1 + through word bs) ≤ 0 → ⊥
    none_zero true h = omega arith
    none_zero false h = omega arith
through_front word (b ∷ bs) (suc m) pos le =
    let u = begins word (b ∷ bs) in
    through_by (begins word (b ∷ take m bs)) u (length word) (through word (take m bs)) (through word bs)
    (same_test word b bs m u refl (word_le u (length word) (through word bs) (suc m) le))
    (λ e. through_front word bs m pos (rest_le u (length word) (through word bs) m le e))

-- ---- runs of bytes

pub prefix_front : (p : ℕ → Bool) (bs : List ℕ) (m : ℕ) → prefix_len p bs < m → prefix_len p (take m bs) ≡ prefix_len p bs
prefix_front p [] zero h = refl
prefix_front p [] (suc m) h = refl
prefix_front p (b ∷ bs) zero h = absurd (omega arith)
prefix_front p (b ∷ bs) (suc m) h = by (p b) h (prefix_front p bs m)
  where
    by : (t : Bool) → cond t (1 + prefix_len p bs) 0 < suc m → (prefix_len p bs < m → prefix_len p (take m bs) ≡ prefix_len p bs)
        → cond t (1 + prefix_len p (take m bs)) 0 ≡ cond t (1 + prefix_len p bs) 0
    by true h rest = ap (λ k. 1 + k) (rest (omega arith))
    by false h rest = refl

pub byte_front : (bs : List ℕ) (m i : ℕ) → i < m → get_or (take m bs) i 0 ≡ get_or bs i 0
byte_front bs m i h = get_or-take m bs i 0 h

-- a run that ends within the front ends there in the text too
pub prefix_more : (p : ℕ → Bool) (bs : List ℕ) (m : ℕ) → prefix_len p (take m bs) < length (take m bs) → prefix_len p bs ≡ prefix_len p (take m bs)
prefix_more p [] zero h = refl
prefix_more p [] (suc m) h = refl
prefix_more p (b ∷ bs) zero h = absurd (omega arith)
prefix_more p (b ∷ bs) (suc m) h = by (p b) h (prefix_more p bs m)
  where
    by : (t : Bool) → cond t (1 + prefix_len p (take m bs)) 0 < suc (length (take m bs))
        → (prefix_len p (take m bs) < length (take m bs) → prefix_len p bs ≡ prefix_len p (take m bs))
        → cond t (1 + prefix_len p bs) 0 ≡ cond t (1 + prefix_len p (take m bs)) 0
    by true h rest = ap (λ k. 1 + k) (rest (omega arith))
    by false h rest = refl

name_by : (t u : Bool) (m n : ℕ) → t ≡ u → (u ≡ true → m ≡ n) → (if t then m else 0) ≡ (if u then n else 0)
name_by true true m n e f = f refl
name_by true false m n e f = cc
name_by false true m n e f = cc
name_by false false m n e f = refl

within_by : (u : Bool) (n m : ℕ) → (if u then n else 0) < m → u ≡ true → n < m
within_by true n m h e = h
within_by false n m h e = cc

pub name_front : (bs : List ℕ) (m : ℕ) → name_len bs < m → name_len (take m bs) ≡ name_len bs
name_front bs m h =
    let u = is_ascii_alphabetic (get_or bs 0 0) in
    name_by (is_ascii_alphabetic (get_or (take m bs) 0 0)) u (prefix_len is_ascii_alphanumeric (take m bs)) (prefix_len is_ascii_alphanumeric bs)
    (ap is_ascii_alphabetic (byte_front bs m 0 (omega arith)))
    (λ e. prefix_front is_ascii_alphanumeric bs m (within_by u (prefix_len is_ascii_alphanumeric bs) m h e))

pub name_more : (bs : List ℕ) (m : ℕ) → 0 < name_len (take m bs) → name_len (take m bs) < length (take m bs) → name_len bs ≡ name_len (take m bs)
name_more bs m pos h =
    let u = is_ascii_alphabetic (get_or (take m bs) 0 0) in
    let some : 0 < m = omega (arith, length-take m bs) in
    name_by (is_ascii_alphabetic (get_or bs 0 0)) u (prefix_len is_ascii_alphanumeric bs) (prefix_len is_ascii_alphanumeric (take m bs))
    (ap is_ascii_alphabetic (sym (byte_front bs m 0 some)))
    (λ e. prefix_more is_ascii_alphanumeric bs m (within_by u (prefix_len is_ascii_alphanumeric (take m bs)) (length (take m bs)) h e))
