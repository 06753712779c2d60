-- The delimiters of a heading, by its signs: the level, and the signs at which they end.
use Rattle.std.proofs.Common.{◌≡◌, ℕ, ◌+◌, ◌-◌, ◌/◌, ◌<◌, ◌≤◌, Bool, true, false, min, List, [], ◌∷◌, length, take, drop, get_or, inl, inr, refl, sym, ap, ◌∙◌, arith, length-take, length-drop}
use Rattle.std.specs.Prelude.{◌==◌, reverse, if◌then◌else◌}
use Rattle.std.proofs.lemmas.Bool.{eqb-true, true≢false, cases_lt}
use Rattle.std.proofs.lemmas.Bool.Decides.{nat_tests}
use Rattle.std.proofs.lemmas.List.{get_or-take, get_or-drop, get_or-reverse, length-reverse}
use Rattle.std.proofs.lemmas.List.Sums.{prefix_len-le-length, prefix_len_passes, prefix_len_stops}
use Rattle.wt_html_grammar.proofs.Steps.{if_true}
use Rattle.wt_span.specs.Bytes.{is_blank, blank_len}
use Rattle.wt_blocks.specs.Headings.{equals, level_of, open_len, trimmed_len}

abbrev is_equals : ℕ → Bool
is_equals s = s == 61

-- ---- runs of `=`

equals_at : (c : List ℕ) (i : ℕ) → i < equals c → get_or c i 0 ≡ 61
equals_at c i h = eqb-true (get_or c i 0) 61 (prefix_len_passes is_equals c i 0 h)

some_equals : (c : List ℕ) → 0 < length c → get_or c 0 0 ≡ 61 → 0 < equals c
some_equals [] s e = absurd (omega arith)
some_equals (x ∷ xs) s e = let f : equals (x ∷ xs) ≡ 1 + equals xs = if_true (x == 61) _ _ (ap is_equals e) in omega (arith, f)

ends_at : (c : List ℕ) (i : ℕ) → length c - equals (reverse c) ≤ i → i < length c → get_or c i 0 ≡ 61
ends_at c i l h =
    let k : ℕ = length c - 1 - i in
    let z : length c - 1 - k ≡ i = omega arith in
    let a : get_or (reverse c) k 0 ≡ get_or c (length c - 1 - k) 0 = get_or-reverse c k 0 (omega arith) in
    let b : get_or (reverse c) k 0 ≡ 61 = equals_at (reverse c) k (omega arith) in
    ap (λ j. get_or c j 0) (sym z) ∙ sym a ∙ b

last_equals : (c : List ℕ) → 0 < length c → get_or c (length c - 1) 0 ≡ 61 → 0 < equals (reverse c)
last_equals c s e =
    let z : length c - 1 - 0 ≡ length c - 1 = omega arith in
    let l : length (reverse c) ≡ length c = length-reverse c in
    some_equals (reverse c) (omega (arith, l)) (get_or-reverse c 0 0 s ∙ ap (λ j. get_or c j 0) z ∙ e)

-- ---- blanks

pub blank_at : (c : List ℕ) (l i : ℕ) → l ≤ i → i < l + blank_len (drop l c) → is_blank (get_or c i 0) ≡ true
blank_at c l i le lt =
    let z : l + (i - l) ≡ i = omega arith in
    let a : get_or (drop l c) (i - l) 0 ≡ get_or c (l + (i - l)) 0 = get_or-drop l c (i - l) 0 in
    ap is_blank (ap (λ j. get_or c j 0) (sym z) ∙ sym a) ∙ prefix_len_passes is_blank (drop l c) (i - l) 0 (omega arith)

no_blank : (b : ℕ) → b ≡ 61 → is_blank b ≡ true → ⊥
no_blank b e h = true≢false (sym h ∙ ap is_blank e)

pub blank_low : (b : ℕ) → is_blank b ≡ true → b < 128
blank_low b h = grind (arith, nat_tests)

-- ---- the level

pub record IsLevel (c : List ℕ) (l : ℕ) : Type 0 where
  pub some : 1 ≤ l
  pub six : l ≤ 6
  pub front : (i : ℕ) → i < l → get_or c i 0 ≡ 61
  pub back : (i : ℕ) → length c - l ≤ i → i < length c → get_or c i 0 ≡ 61
  pub apart : l + blank_len (drop l c) + l ≤ length c

-- the blanks behind the open delimiter don't reach into the close delimiter
stand_apart : (c : List ℕ) (l : ℕ) → l + l ≤ length c → ((i : ℕ) → length c - l ≤ i → i < length c → get_or c i 0 ≡ 61)
    → l + blank_len (drop l c) + l ≤ length c
stand_apart c l two back = elim (cases_lt (length c) (l + blank_len (drop l c) + l)) [ inl h ↦ reaches h | inr h ↦ h ]
  where
    reaches : length c < l + blank_len (drop l c) + l → l + blank_len (drop l c) + l ≤ length c
    reaches h =
        let k : blank_len (drop l c) ≤ length (drop l c) = prefix_len-le-length is_blank (drop l c) in
        let d : length (drop l c) ≡ length c - l = length-drop l c in
        let i : ℕ = l + blank_len (drop l c) - 1 in
        absurd (no_blank (get_or c i 0) (back i (omega arith) (omega arith)) (blank_at c l i (omega arith) (omega arith)))

half : (n : ℕ) → 3 ≤ n → (1 ≤ (n - 1) / 2) × ((n - 1) / 2 + (n - 1) / 2 ≤ n - 1)
half n h = (omega arith, omega arith)

all_level : (c : List ℕ) → equals c ≡ length c → 3 ≤ length c → IsLevel c (min 6 ((length c - 1) / 2))
all_level c e three =
    let l : ℕ = min 6 ((length c - 1) / 2) in
    let h : (1 ≤ (length c - 1) / 2) × ((length c - 1) / 2 + (length c - 1) / 2 ≤ length c - 1) = half (length c) three in
    let a = h.0 in
    let b = h.1 in
    let back : (i : ℕ) → length c - l ≤ i → i < length c → get_or c i 0 ≡ 61 = λ i _ lt. equals_at c i (omega (arith, e)) in
    record {
      some = omega (arith, a);
      six = omega arith;
      front = λ i lt. equals_at c i (omega (arith, e, b));
      back = back;
      apart = stand_apart c l (omega (arith, b)) back;
    }

mixed_level : (c : List ℕ) → 0 < equals c → 0 < equals (reverse c) → equals c < length c → IsLevel c (min 6 (min (equals c) (equals (reverse c))))
mixed_level c s t lt =
    let l : ℕ = min 6 (min (equals c) (equals (reverse c))) in
    let back : (i : ℕ) → length c - l ≤ i → i < length c → get_or c i 0 ≡ 61 = λ i le h. ends_at c i (omega arith) h in
    record {
      some = omega arith;
      six = omega arith;
      front = λ i h. equals_at c i (omega arith);
      back = back;
      apart = stand_apart c l (two l (omega arith) back) back;
    }
  where
    two : (l : ℕ) → l ≤ equals c → ((i : ℕ) → length c - l ≤ i → i < length c → get_or c i 0 ≡ 61) → l + l ≤ length c
    two l le back = elim (cases_lt (length c) (l + l)) [
      | inl h ↦ absurd (true≢false (sym (ap is_equals (back (equals c) (omega arith) lt)) ∙ prefix_len_stops is_equals c 0 lt))
      | inr h ↦ h
    ]

pub level_is : (c : List ℕ) → 0 < length c → get_or c 0 0 ≡ 61 → get_or c (length c - 1) 0 ≡ 61
    → (((i : ℕ) → i < length c → get_or c i 0 ≡ 61) → 3 ≤ length c) → IsLevel c (level_of c)
level_is c some first last three = by_test (equals c == length c) refl
  where
    less : (m n : ℕ) → m ≤ n → (m == n) ≡ false → m < n
    less m n l e = grind (arith, nat_tests)

    by_test : (t : Bool) → (equals c == length c) ≡ t → IsLevel c (if t then min 6 ((length c - 1) / 2) else min 6 (min (equals c) (equals (reverse c))))
    by_test true e = let f : equals c ≡ length c = eqb-true (equals c) (length c) e in all_level c f (three (λ i h. equals_at c i (omega (arith, f))))
    by_test false e = mixed_level c (some_equals c some first) (last_equals c some last) (less (equals c) (length c) (prefix_len-le-length is_equals c) e)

-- ---- where the delimiters end

pub open_sign : (c : List ℕ) → IsLevel c (level_of c) → (0 < open_len c) × (open_len c ≤ length c) × (get_or c (open_len c - 1) 0 < 128)
open_sign c h =
    let l : ℕ = level_of c in
    let some : 1 ≤ l = h.some in
    let apart : l + blank_len (drop l c) + l ≤ length c = h.apart in
    let low : get_or c (open_len c - 1) 0 < 128 = elim (cases_lt 0 (blank_len (drop l c))) [
      | inl b ↦ blank_low (get_or c (open_len c - 1) 0) (blank_at c l (open_len c - 1) (omega arith) (omega arith))
      | inr b ↦ equals_low (get_or c (open_len c - 1) 0) (h.front (open_len c - 1) (omega arith))
    ] in
    (omega arith, omega arith, low)
  where
    equals_low : (b : ℕ) → b ≡ 61 → b < 128
    equals_low b e = omega (arith, e)

-- between the delimiters
abbrev pub middle : List ℕ → List ℕ
middle c = take (length c - level_of c - open_len c) (drop (open_len c) c)

middle_len : (c : List ℕ) → IsLevel c (level_of c) → length (middle c) ≡ length c - level_of c - open_len c
middle_len c h =
    let apart : level_of c + blank_len (drop (level_of c) c) + level_of c ≤ length c = h.apart in
    omega (arith, apart, length-take (length c - level_of c - open_len c) (drop (open_len c) c), length-drop (open_len c) c)

pub close_sign : (c : List ℕ) → IsLevel c (level_of c) → (open_len c + trimmed_len (middle c) < length c)
    × (get_or c (open_len c + trimmed_len (middle c)) 0 < 128)
close_sign c h =
    let l : ℕ = level_of c in
    let some : 1 ≤ l = h.some in
    let apart : l + blank_len (drop l c) + l ≤ length c = h.apart in
    let m : length (middle c) ≡ length c - l - open_len c = middle_len c h in
    let r : length (reverse (middle c)) ≡ length (middle c) = length-reverse (middle c) in
    let k : blank_len (reverse (middle c)) ≤ length (reverse (middle c)) = prefix_len-le-length is_blank (reverse (middle c)) in
    (omega arith, elim (cases_lt 0 (blank_len (reverse (middle c)))) [ inl b ↦ trailing b | inr b ↦ level_sign b ])
  where
    level_sign : blank_len (reverse (middle c)) ≤ 0 → get_or c (open_len c + trimmed_len (middle c)) 0 < 128
    level_sign b =
        let some : 1 ≤ level_of c = h.some in
        let apart : level_of c + blank_len (drop (level_of c) c) + level_of c ≤ length c = h.apart in
        let m : length (middle c) ≡ length c - level_of c - open_len c = middle_len c h in
        let e : get_or c (open_len c + trimmed_len (middle c)) 0 ≡ 61 = h.back (open_len c + trimmed_len (middle c)) (omega arith) (omega arith) in
        omega (arith, e)

    trailing : 0 < blank_len (reverse (middle c)) → get_or c (open_len c + trimmed_len (middle c)) 0 < 128
    trailing b =
        let some : 1 ≤ level_of c = h.some in
        let apart : level_of c + blank_len (drop (level_of c) c) + level_of c ≤ length c = h.apart in
        let m : length (middle c) ≡ length c - level_of c - open_len c = middle_len c h in
        let r : length (reverse (middle c)) ≡ length (middle c) = length-reverse (middle c) in
        let k : blank_len (reverse (middle c)) ≤ length (reverse (middle c)) = prefix_len-le-length is_blank (reverse (middle c)) in
        let i : ℕ = blank_len (reverse (middle c)) - 1 in
        let p : is_blank (get_or (reverse (middle c)) i 0) ≡ true = prefix_len_passes is_blank (reverse (middle c)) i 0 (omega arith) in
        let q : get_or (reverse (middle c)) i 0 ≡ get_or (middle c) (length (middle c) - 1 - i) 0 = get_or-reverse (middle c) i 0 (omega arith) in
        let z : length (middle c) - 1 - i ≡ trimmed_len (middle c) = omega arith in
        let t : get_or (middle c) (trimmed_len (middle c)) 0 ≡ get_or (drop (open_len c) c) (trimmed_len (middle c)) 0 =
        get_or-take (length c - level_of c - open_len c) (drop (open_len c) c) (trimmed_len (middle c)) 0 (omega arith) in
        let d : get_or (drop (open_len c) c) (trimmed_len (middle c)) 0 ≡ get_or c (open_len c + trimmed_len (middle c)) 0 =
        get_or-drop (open_len c) c (trimmed_len (middle c)) 0 in
        blank_low (get_or c (open_len c + trimmed_len (middle c)) 0) (ap is_blank (sym (q ∙ ap (λ j. get_or (middle c) j 0) z ∙ t ∙ d)) ∙ p)
