-- Where a text ends in an open tag: as it is computed, and in other words.
use Rattle.std.proofs.Common.{arith, ◌≡◌, ◌<◌, ◌≤◌, ◌+◌, ◌-◌, ℕ, zero, suc, Bool, true, false, refl, sym, ap, ◌∙◌, List, [], ◌∷◌, ◌++◌, length, get_or, take, drop, take-append-drop, length-drop, length-append}
use Rattle.std.specs.Prelude.{◌==◌, ◌&&◌, ◌||◌, not, nat_lt, slice_index, reverse}
use Rattle.std.specs.Char.{is_ascii_alphabetic}
use Rattle.std.proofs.lemmas.Bool.Decides.{nat_tests}
use Rattle.std.specs.List.{list_any}
use Rattle.std.proofs.lemmas.List.{drop_more, length-reverse, get_or-reverse}
use Rattle.std.proofs.lemmas.List.Sums.{prefix_len_is, prefix_len_passes}
use Rattle.wt_isolation.specs.OpenTags.{is_stop, bare_len, ends_open, EndsOpen}

less_test : (a b : ℕ) → a < b → nat_lt a b ≡ true
less_test a b e = grind (arith, nat_tests)

not_less_test : (a b : ℕ) → b ≤ a → nat_lt a b ≡ false
not_less_test a b e = grind (arith, nat_tests)

and_right : (a b c : Bool) → a ≡ true → b ≡ true → c ≡ (a && (b && c))
and_right true true c d e = refl
and_right true false c d e = absurd (cc)
and_right false b c d e = absurd (cc)

and_false : (a b c : Bool) → a ≡ false → false ≡ (a && (b && c))
and_false false b c d = refl
and_false true b c d = absurd (cc)

and_later_false : (a b c : Bool) → b ≡ false → false ≡ (a && (b && c))
and_later_false true false c d = refl
and_later_false true true c d = absurd (cc)
and_later_false false b c d = refl

pub opens_here : (bs : List ℕ) (n : ℕ) → n ≡ bare_len bs → 0 < n → n < length bs
    → (slice_index bs (length bs - n - 1) == 60 && is_ascii_alphabetic (slice_index bs (length bs - n))) ≡ ends_open bs
opens_here bs n e low high =
    let m : length bs - n - 1 ≡ length bs - (n + 1) = omega arith in
    ap (λ (k : ℕ). slice_index bs k == 60 && is_ascii_alphabetic (slice_index bs (length bs - n))) m
    ∙ and_right (nat_lt 0 n) (nat_lt n (length bs)) (slice_index bs (length bs - (n + 1)) == 60 && is_ascii_alphabetic (slice_index bs (length bs - n)))
    (less_test 0 n low) (less_test n (length bs) high)
    ∙ ap (λ (k : ℕ). nat_lt 0 k && (nat_lt k (length bs) &&
    (slice_index bs (length bs - (k + 1)) == 60 && is_ascii_alphabetic (slice_index bs (length bs - k))))) e

pub all_bare_here : (bs : List ℕ) (n : ℕ) → n ≡ bare_len bs → length bs ≤ n → false ≡ ends_open bs
all_bare_here bs n e high =
    and_later_false (nat_lt 0 n) (nat_lt n (length bs)) (slice_index bs (length bs - (n + 1)) == 60 && is_ascii_alphabetic (slice_index bs (length bs - n)))
    (not_less_test n (length bs) high)
    ∙ ap (λ (k : ℕ). nat_lt 0 k && (nat_lt k (length bs) &&
    (slice_index bs (length bs - (k + 1)) == 60 && is_ascii_alphabetic (slice_index bs (length bs - k))))) e

pub none_bare_here : (bs : List ℕ) (n : ℕ) → n ≡ bare_len bs → n ≡ 0 → false ≡ ends_open bs
none_bare_here bs n e low =
    and_false (nat_lt 0 n) (nat_lt n (length bs)) (slice_index bs (length bs - (n + 1)) == 60 && is_ascii_alphabetic (slice_index bs (length bs - n)))
    (not_less_test 0 n (omega (arith, low)))
    ∙ ap (λ (k : ℕ). nat_lt 0 k && (nat_lt k (length bs) &&
    (slice_index bs (length bs - (k + 1)) == 60 && is_ascii_alphabetic (slice_index bs (length bs - k))))) e

-- ---- in other words

get_behind : (xs ys : List ℕ) (i k : ℕ) → k ≡ length xs + i → get_or (xs ++ ys) k 0 ≡ get_or ys i 0
get_behind [] ys i k e = let f : k ≡ i = omega (arith, e) in ap (λ j. get_or ys j 0) f
get_behind (x ∷ xs) ys i zero e = absurd (omega (arith, e))
get_behind (x ∷ xs) ys i (suc k) e = get_behind xs ys i k (omega (arith, e))

get_dropped : (xs : List ℕ) (n i k : ℕ) → k ≡ n + i → get_or (drop n xs) i 0 ≡ get_or xs k 0
get_dropped xs zero i k e = let f : i ≡ k = omega (arith, e) in ap (λ j. get_or xs j 0) f
get_dropped [] (suc n) i k e = refl
get_dropped (x ∷ xs) (suc n) i zero e = absurd (omega (arith, e))
get_dropped (x ∷ xs) (suc n) i (suc k) e = get_dropped xs n i k (omega (arith, e))

any_none : (xs : List ℕ) → ((k : ℕ) → k < length xs → is_stop (get_or xs k 0) ≡ false) → list_any is_stop xs ≡ false
any_none [] h = refl
any_none (x ∷ xs) h =
    let e : is_stop x ≡ false = h 0 (omega arith) in
    ap (λ b. b || list_any is_stop xs) e ∙ any_none xs (λ k lt. h (suc k) (omega (arith, lt)))

or_none : (a b : Bool) → (a || b) ≡ false → (a ≡ false) × (b ≡ false)
or_none true b e = absurd (cc)
or_none false b e = (refl, e)

none_any : (xs : List ℕ) → list_any is_stop xs ≡ false → (k : ℕ) → k < length xs → is_stop (get_or xs k 0) ≡ false
none_any [] h k lt = absurd (omega (arith, lt))
none_any (x ∷ xs) h zero lt = (or_none (is_stop x) (list_any is_stop xs) h).0
none_any (x ∷ xs) h (suc k) lt = none_any xs (or_none (is_stop x) (list_any is_stop xs) h).1 k (omega (arith, lt))

both_true : (a b : Bool) → (a && b) ≡ true → (a ≡ true) × (b ≡ true)
both_true true b e = (refl, e)
both_true false b e = absurd (cc)

less_of : (a b : ℕ) → nat_lt a b ≡ true → a < b
less_of a b e = grind (arith, nat_tests)

same_of : (a b : ℕ) → (a == b) ≡ true → a ≡ b
same_of a b e = grind (arith, nat_tests)

bare_of : (b : Bool) → not b ≡ true → b ≡ false
bare_of true e = absurd (cc)
bare_of false e = refl

pub opened : (bs : List ℕ) → ends_open bs ≡ true → EndsOpen bs
opened bs e =
    let n = bare_len bs in
    let len = length bs in
    let p = both_true (nat_lt 0 n) (nat_lt n len && (slice_index bs (len - (n + 1)) == 60 && is_ascii_alphabetic (slice_index bs (len - n)))) e in
    let q = both_true (nat_lt n len) (slice_index bs (len - (n + 1)) == 60 && is_ascii_alphabetic (slice_index bs (len - n))) p.1 in
    let r = both_true (slice_index bs (len - (n + 1)) == 60) (is_ascii_alphabetic (slice_index bs (len - n))) q.1 in
    let low : 0 < n = less_of 0 n p.0 in
    let high : n < len = less_of n len q.0 in
    let at = len - (n + 1) in
    let next : at + 1 ≡ len - n = omega (arith, high) in
    let one : drop at bs ≡ get_or bs at 0 ∷ drop (at + 1) bs = drop_more bs at 0 (omega (arith, high)) in
    let two : drop (at + 1) bs ≡ get_or bs (at + 1) 0 ∷ drop (at + 1 + 1) bs = drop_more bs (at + 1) 0 (omega (arith, high, low)) in
    let sign : get_or bs at 0 ≡ 60 = same_of (get_or bs at 0) 60 r.0 in
    record {
      front = take at bs;
      letter = get_or bs (at + 1) 0;
      rest = drop (at + 1 + 1) bs;
      is = sym (take-append-drop at bs) ∙ ap (λ xs. take at bs ++ xs) (one ∙ ap (λ xs. get_or bs at 0 ∷ xs) two
          ∙ ap (λ x. x ∷ get_or bs (at + 1) 0 ∷ drop (at + 1 + 1) bs) sign);
      is_letter = ap (λ k. is_ascii_alphabetic (get_or bs k 0)) next ∙ r.1;
      bare = ap (list_any is_stop) (sym two) ∙ any_none (drop (at + 1) bs) (λ k lt. stays bs at k high (le_of k lt));
    }
  where
    le_of : (k : ℕ) → k < length (drop (length bs - (bare_len bs + 1) + 1) bs) → k < length bs - (length bs - (bare_len bs + 1) + 1)
    le_of k lt = let e = length-drop (length bs - (bare_len bs + 1) + 1) bs in omega (arith, lt, e)

    stays : (bs : List ℕ) (at k : ℕ) → bare_len bs < length bs → k < length bs - (length bs - (bare_len bs + 1) + 1)
        → is_stop (get_or (drop (length bs - (bare_len bs + 1) + 1) bs) k 0) ≡ false
    stays bs at k high lt =
        let n = bare_len bs in
        let len = length bs in
        let i : ℕ = len - (n + 1) + 1 + k in
        let j : ℕ = len - 1 - i in
        let small : j < n = omega (arith, high, lt) in
        let back : len - 1 - j ≡ i = omega (arith, high, lt) in
        let within : j < len = omega (arith, high, small) in
        let g : get_or (reverse bs) j 0 ≡ get_or bs i 0 = get_or-reverse bs j 0 within ∙ ap (λ m. get_or bs m 0) back in
        let h : not (is_stop (get_or (reverse bs) j 0)) ≡ true = prefix_len_passes (λ b. not (is_stop b)) (reverse bs) j 0 small in
        ap is_stop (get_dropped bs (len - (n + 1) + 1) k i refl ∙ sym g) ∙ bare_of (is_stop (get_or (reverse bs) j 0)) h

bare_is : (front rest : List ℕ) (letter : ℕ) → list_any is_stop (letter ∷ rest) ≡ false → bare_len (front ++ 60 ∷ letter ∷ rest) ≡ suc (length rest)
bare_is front rest letter bare =
    let bs = front ++ 60 ∷ letter ∷ rest in
    let len : length bs ≡ length front + suc (suc (length rest)) = length-append front (60 ∷ letter ∷ rest) in
    let back = length-reverse bs in
    prefix_len_is (λ b. not (is_stop b)) (reverse bs) (suc (length rest)) 0 (omega (arith, len, back))
    (λ k lt.
    let within : k < length bs = omega (arith, len, lt) in
    let i : ℕ = length rest - k in
    let there : length bs - 1 - k ≡ length front + suc i = omega (arith, len, lt) in
    let inside : i < length (letter ∷ rest) = omega arith in
    let g : get_or (reverse bs) k 0 ≡ get_or (letter ∷ rest) i 0 =
    get_or-reverse bs k 0 within ∙ get_behind front (60 ∷ letter ∷ rest) (suc i) (length bs - 1 - k) there in
    ap (λ b. not (is_stop b)) g ∙ ap not (none_any (letter ∷ rest) bare i inside))
    (λ lt.
    let within : suc (length rest) < length bs = omega (arith, len) in
    let there : length bs - 1 - suc (length rest) ≡ length front + 0 = omega (arith, len) in
    ap (λ b. not (is_stop b)) (get_or-reverse bs (suc (length rest)) 0 within
    ∙ get_behind front (60 ∷ letter ∷ rest) 0 (length bs - 1 - suc (length rest)) there))

and_both : (a b : Bool) → a ≡ true → b ≡ true → (a && b) ≡ true
and_both true b d e = e
and_both false b d e = absurd (cc)

same_test : (a b : ℕ) → a ≡ b → (a == b) ≡ true
same_test a b e = grind (arith, nat_tests)

opens_so : (front rest : List ℕ) (letter : ℕ) → is_ascii_alphabetic letter ≡ true → list_any is_stop (letter ∷ rest) ≡ false
    → ends_open (front ++ 60 ∷ letter ∷ rest) ≡ true
opens_so front rest letter is bare =
    let bs = front ++ 60 ∷ letter ∷ rest in
    let n : ℕ = suc (length rest) in
    let len : length bs ≡ length front + suc (suc (length rest)) = length-append front (60 ∷ letter ∷ rest) in
    let first : length bs - n - 1 ≡ length front + 0 = omega (arith, len) in
    let second : length bs - n ≡ length front + 1 = omega (arith, len) in
    sym (opens_here bs n (sym (bare_is front rest letter bare)) (omega arith) (omega (arith, len)))
    ∙ and_both (slice_index bs (length bs - n - 1) == 60) (is_ascii_alphabetic (slice_index bs (length bs - n)))
    (same_test (get_or bs (length bs - n - 1) 0) 60 (get_behind front (60 ∷ letter ∷ rest) 0 (length bs - n - 1) first))
    (ap is_ascii_alphabetic (get_behind front (60 ∷ letter ∷ rest) 1 (length bs - n) second) ∙ is)

pub opens : (bs : List ℕ) → EndsOpen bs → ends_open bs ≡ true
opens bs o = ap ends_open o.is ∙ opens_so o.front o.rest o.letter o.is_letter o.bare
