-- The level of a heading is the greatest that fits, and its delimiters are what they should be.
use Rattle.std.proofs.Common.{◌≡◌, ℕ, zero, suc, ◌+◌, ◌-◌, ◌*◌, ◌/◌, ◌<◌, ◌≤◌, Bool, true, false, List, [], ◌∷◌, ◌++◌, length, get_or, take, drop, map, refl, sym, ap, ◌∙◌, subst, cond, arith, length-drop}
use Rattle.std.specs.Prelude.{◌==◌, min, reverse, replicate}
use Rattle.std.specs.List.{prefix_len}
use Rattle.std.proofs.Math.Seq.{take-add}
use Rattle.std.proofs.lemmas.Bool.Decides.{nat_tests}
use Rattle.std.proofs.lemmas.List.{get_or-take, get_or-drop, get_or-reverse, length-take-le, length-reverse, length-map, take_rest, take-take, take-map, drop-map, take-append-drop, drop-drop}
use Rattle.std.proofs.lemmas.List.Sums.{prefix_len-le-length, prefix_len_passes, prefix_len_stops, prefix_len_is}
use Rattle.std.proofs.Math.Nat.{lt_of_not-le}
use Rattle.wt_blocks.proofs.Cuts.{middle, between, core_is, core_back, idle_within, level_small, past_is, cuts_within}
use Rattle.wt_span.specs.Bytes.{is_blank, blank_len}
use Rattle.wt_span.specs.Items.{Item, sign}
use Rattle.wt_lines.specs.Kinds.{is_idle}
use Rattle.wt_blocks.specs.Headings.{equals, core, level_of, open_len, inside_len, level, opening, inside, closing}
use Rattle.wt_blocks.specs.HeadingEnds.{StandAtEnds, AllPass, IsOpening, IsClosing}

-- ---- runs of `=`

equal_by : (n x : ℕ) (c : List ℕ) (v : Bool) → (x == 61) ≡ v → suc n ≤ cond v (1 + equals c) 0
    → (n ≤ equals c → take n c ≡ replicate n 61) → x ∷ take n c ≡ 61 ∷ replicate n 61
equal_by n x c true e h ih = let f : x ≡ 61 = grind (arith, nat_tests) in ap (λ y. y ∷ take n c) f ∙ ap (λ (ys : List ℕ). 61 ∷ ys) (ih (omega arith))
equal_by n x c false e h ih = absurd (omega arith)

equal_front : (n : ℕ) (c : List ℕ) → n ≤ equals c → take n c ≡ replicate n 61
equal_front zero c h = refl
equal_front (suc n) [] h = absurd (omega arith)
equal_front (suc n) (x ∷ c) h = equal_by n x c (x == 61) refl h (equal_front n c)

equal_back : (n : ℕ) (c : List ℕ) → take n c ≡ replicate n 61 → n ≤ equals c
equal_back zero c e = omega arith
equal_back (suc n) [] e = cc
equal_back (suc n) (x ∷ c) e =
    let a : x ≡ 61 = cc in
    let b : take n c ≡ replicate n 61 = cc in
    let h = equal_back n c b in
    let t : (x == 61) ≡ true = grind (arith, nat_tests) in
    let k : equals (x ∷ c) ≡ 1 + equals c = ap (λ v. cond v (1 + equals c) 0) t in
    omega (arith, h, k)

passes_back : (c : List ℕ) (i : ℕ) → i < length c → length c ≤ i + equals (reverse c) → (get_or c i 0 == 61) ≡ true
passes_back c i h g =
    let at : length c - 1 - (length c - 1 - i) ≡ i = omega arith in
    let r = length-reverse c in
    sym (ap (λ x. x == 61) (get_or-reverse c (length c - 1 - i) 0 (omega arith) ∙ ap (λ k. get_or c k 0) at))
    ∙ prefix_len_passes (λ s. s == 61) (reverse c) (length c - 1 - i) 0 (omega arith)

short_back : (c : List ℕ) (i : ℕ) → i < length c → (get_or c i 0 == 61) ≡ false → i + equals (reverse c) < length c
short_back c i h e = lt_of_not-le (λ g. let t : (get_or c i 0 == 61) ≡ true = passes_back c i h g in cc)

all_back : (c : List ℕ) → equals c ≡ length c → equals (reverse c) ≡ length c
all_back c e =
    let r = length-reverse c in
    prefix_len_is (λ s. s == 61) (reverse c) (length c) 0 (omega arith)
    (λ k h. ap (λ x. x == 61) (get_or-reverse c k 0 h) ∙ prefix_len_passes (λ s. s == 61) c (length c - 1 - k) 0 (omega arith))
    (λ h. absurd (omega arith))

-- ---- the level

abbrev level_cond : List ℕ → Bool → ℕ
level_cond c v = cond v (min 6 ((length c - 1) / 2)) (min 6 (min (equals c) (equals (reverse c))))

stands_by : (c : List ℕ) (v : Bool) → (equals c == length c) ≡ v → 0 < length c
    → (level_cond c v ≤ equals c) × (level_cond c v ≤ equals (reverse c)) × (2 * level_cond c v < length c)
stands_by c true e s =
    let f : equals c ≡ length c = grind (arith, nat_tests) in
    let g = all_back c f in
    (omega arith, omega arith, omega arith)
stands_by c false e s =
    let w = prefix_len-le-length (λ x. x == 61) c in
    let n : equals c < length c = grind (arith, nat_tests) in
    let a = short_back c (equals c) n (prefix_len_stops (λ x. x == 61) c 0 n) in
    (omega arith, omega arith, omega arith)

level_stands : (c : List ℕ) → 0 < length c → StandAtEnds (level_of c) c
level_stands c s =
    let a = stands_by c (equals c == length c) refl s in
    (equal_front (level_of c) c a.0, equal_front (level_of c) (reverse c) a.1, a.2)

greatest_by : (c : List ℕ) (n : ℕ) (v : Bool) → n ≤ 6 → n ≤ equals c → n ≤ equals (reverse c) → 2 * n < length c → n ≤ level_cond c v
greatest_by c n true a b d e = omega arith
greatest_by c n false a b d e = omega arith

level_greatest : (c : List ℕ) (n : ℕ) → n ≤ 6 → StandAtEnds n c → n ≤ level_of c
level_greatest c n a h = greatest_by c n (equals c == length c) a (equal_back n c h.0) (equal_back n (reverse c) h.1) h.2

-- ---- the delimiters

all_by : (p : ℕ → Bool) (n x : ℕ) (xs : List ℕ) (v : Bool) → p x ≡ v → suc n ≤ cond v (1 + prefix_len p xs) 0
    → (n ≤ prefix_len p xs → AllPass p (take n xs)) → AllPass p (x ∷ take n xs)
all_by p n x xs true e h ih = (e, ih (omega arith))
all_by p n x xs false e h ih = absurd (omega arith)

all_front : (p : ℕ → Bool) (n : ℕ) (xs : List ℕ) → n ≤ prefix_len p xs → AllPass p (take n xs)
all_front p zero xs h = tt
all_front p (suc n) [] h = tt
all_front p (suc n) (x ∷ xs) h = all_by p n x xs (p x) refl h (all_front p n xs)

-- the blanks behind the first `=` end before the last ones
room : (c : List ℕ) (l : ℕ) → l ≤ equals (reverse c) → 2 * l < length c → l + blank_len (drop l c) + l ≤ length c
room c zero a b = let w = prefix_len-le-length is_blank c in omega arith
room c (suc l) a b =
    let i = length c - suc l in
    let w : blank_len (drop (suc l) c) < suc (i - suc l) = lt_of_not-le (λ h.
    let t : (get_or c i 0 == 61) ≡ true = passes_back c i (omega arith) (omega arith) in
    let at : suc l + (i - suc l) ≡ i = omega arith in
    let s : is_blank (get_or (drop (suc l) c) (i - suc l) 0) ≡ true = prefix_len_passes is_blank (drop (suc l) c) (i - suc l) 0 (omega arith) in
    let u : is_blank (get_or c i 0) ≡ true = ap is_blank (sym (get_or-drop (suc l) c (i - suc l) 0 ∙ ap (λ k. get_or c k 0) at)) ∙ s in
    let x : get_or c i 0 ≡ 61 = grind (arith, nat_tests) in
    let y : is_blank 61 ≡ true = ap is_blank (sym x) ∙ u in cc) in
    omega arith

room_of : (c : List ℕ) → 0 < level_of c → open_len c + level_of c ≤ length c
room_of c h =
    let m = level_small c in
    let a = stands_by c (equals c == length c) refl (omega (arith, m.1, h)) in
    room c (level_of c) a.1 a.2

open_is : (ss : List ℕ) → 0 < level_of (core ss) → IsOpening (level_of (core ss)) (take (open_len (core ss)) ss)
open_is ss h =
    let c = core ss in
    let l = level_of c in
    let m = level_small c in
    let a = stands_by c (equals c == length c) refl (omega (arith, m.1, h)) in
    let r = room_of c h in
    let n = core_is ss in
    let blanks = take (blank_len (drop l c)) (drop l c) in (
      blanks,
      sym (take-take (open_len c) (length ss - prefix_len is_idle (reverse ss)) ss (omega (arith, r, n)))
          ∙ take-add l (blank_len (drop l c)) c ∙ ap (λ xs. xs ++ blanks) (equal_front l c a.0),
      all_front is_blank (blank_len (drop l c)) (drop l c) (omega arith),
    )

inside_value : (c : List ℕ) → inside_len c ≡ length c - level_of c - open_len c - min (length c - level_of c - open_len c)
    (blank_len (drop (level_of c) (reverse c)))
inside_value c =
    let d = length c - level_of c - open_len c in
    let tl : length (take d (drop (open_len c) c)) ≡ d = length-take-le d (drop (open_len c) c) (omega (arith, length-drop (open_len c) c)) in
    ap (λ n. n - blank_len (reverse (take d (drop (open_len c) c)))) tl ∙ ap (λ n. d - n) (between c (open_len c) d (level_of c) refl)

reversed_rest : (m : ℕ) (ss : List ℕ) → m ≤ length ss → reverse (drop m ss) ≡ take (length ss - m) (reverse ss)
reversed_rest m ss h = ap reverse (sym (take_rest ss m)) ∙ middle ss m (length ss - m) 0 (omega arith)

close_is : (ss : List ℕ) → 0 < level_of (core ss) → IsClosing (level_of (core ss)) (drop (open_len (core ss) + inside_len (core ss)) ss)
close_is ss h =
    let c = core ss in
    let l = level_of c in
    let j = prefix_len is_idle (reverse ss) in
    let d = length c - l - open_len c in
    let b = min d (blank_len (drop l (reverse c))) in
    let m = level_small c in
    let a = stands_by c (equals c == length c) refl (omega (arith, m.1, h)) in
    let r = room_of c h in
    let n = core_is ss in
    let w = idle_within ss in
    let i = inside_value c in
    let count : length ss - (open_len c + inside_len c) ≡ j + (l + b) = omega (arith, i, n, w, r) in
    let back : drop j (reverse ss) ≡ reverse c = sym (core_back ss ∙ past_is is_idle (reverse ss)) in (
      take j (reverse ss),
      take b (drop l (reverse c)),
      reversed_rest (open_len c + inside_len c) ss (omega (arith, i, n, r))
          ∙ ap (λ k. take k (reverse ss)) count
          ∙ take-add j (l + b) (reverse ss)
          ∙ ap (λ xs. take j (reverse ss) ++ take (l + b) xs) back
          ∙ ap (λ xs. take j (reverse ss) ++ xs) (take-add l b (reverse c) ∙ ap (λ xs. xs ++ take b (drop l (reverse c))) (equal_front l (reverse c) a.1)),
      all_front is_idle j (reverse ss) (omega arith),
      all_front is_blank b (drop l (reverse c)) (omega arith),
    )

-- ---- the inside begins and ends with no blank

begins : (ss : List ℕ) → 0 < level_of (core ss) → is_blank (get_or ss (open_len (core ss)) 0) ≡ false
begins ss h =
    let c = core ss in
    let l = level_of c in
    let r = room_of c h in
    let n = core_is ss in
    let w : blank_len (drop l c) < length (drop l c) = omega (arith, length-drop l c, r, h) in
    let is : get_or (drop l c) (blank_len (drop l c)) 0 ≡ get_or ss (open_len c) 0 =
    get_or-drop l c (blank_len (drop l c)) 0 ∙ get_or-take (length ss - prefix_len is_idle (reverse ss)) ss (open_len c) 0 (omega (arith, n, r, h)) in
    ap is_blank (sym is) ∙ prefix_len_stops is_blank (drop l c) 0 w

ends : (ss : List ℕ) → 0 < inside_len (core ss) → is_blank (get_or ss (open_len (core ss) + inside_len (core ss) - 1) 0) ≡ false
ends ss h =
    let c = core ss in
    let o = open_len c in
    let d = length c - level_of c - o in
    let t = take d (drop o c) in
    let k = blank_len (reverse t) in
    let n = core_is ss in
    let tl : length t ≡ d = length-take-le d (drop o c) (omega (arith, length-drop o c)) in
    let rl = length-reverse t in
    let at : o + (length t - 1 - k) ≡ o + inside_len c - 1 = omega arith in
    let is : get_or (reverse t) k 0 ≡ get_or ss (o + inside_len c - 1) 0 =
    get_or-reverse t k 0 (omega arith) ∙ get_or-take d (drop o c) (length t - 1 - k) 0 (omega (arith, tl))
    ∙ get_or-drop o c (length t - 1 - k) 0 ∙ ap (λ q. get_or c q 0) at
    ∙ get_or-take (length ss - prefix_len is_idle (reverse ss)) ss (o + inside_len c - 1) 0 (omega (arith, n, tl)) in
    ap is_blank (sym is) ∙ prefix_len_stops is_blank (reverse t) 0 (omega (arith, rl))

-- ---- on items

pub stands : (xs : List Item) → 0 < length (core (map sign xs)) → StandAtEnds (level xs) (core (map sign xs))
unfolding level
stands xs s = level_stands (core (map sign xs)) s

pub greatest : (xs : List Item) (n : ℕ) → n ≤ 6 → StandAtEnds n (core (map sign xs)) → n ≤ level xs
unfolding level
greatest xs n a h = level_greatest (core (map sign xs)) n a h

pub joined : (xs : List Item) → opening xs ++ (inside xs ++ closing xs) ≡ xs
unfolding opening inside closing
joined xs =
    let o = open_len (core (map sign xs)) in
    let i = inside_len (core (map sign xs)) in
    ap (λ ys. take o xs ++ (take i (drop o xs) ++ ys)) (sym (drop-drop i o xs))
    ∙ ap (λ ys. take o xs ++ ys) (take-append-drop i (drop o xs)) ∙ take-append-drop o xs

pub opens : (xs : List Item) → 0 < level xs → IsOpening (level xs) (map sign (opening xs))
unfolding level opening
opens xs h = subst (IsOpening (level_of (core (map sign xs)))) (take-map sign (open_len (core (map sign xs))) xs) (open_is (map sign xs) h)

pub closes : (xs : List Item) → 0 < level xs → IsClosing (level xs) (map sign (closing xs))
unfolding level closing
closes xs h = subst (IsClosing (level_of (core (map sign xs))))
    (drop-map sign (open_len (core (map sign xs)) + inside_len (core (map sign xs))) xs) (close_is (map sign xs) h)

opening_len : (xs : List Item) → length (opening xs) ≡ open_len (core (map sign xs))
unfolding opening
opening_len xs = let w = cuts_within (map sign xs) in length-take-le (open_len (core (map sign xs))) xs (omega (arith, w, length-map xs sign))

inner_len : (xs : List Item) → length (inside xs) ≡ inside_len (core (map sign xs))
unfolding inside
inner_len xs =
    let o = open_len (core (map sign xs)) in
    let w = cuts_within (map sign xs) in
    length-take-le (inside_len (core (map sign xs))) (drop o xs) (omega (arith, w, length-map xs sign, length-drop o xs))

pub bare_front : (xs : List Item) → 0 < level xs → is_blank (get_or (map sign xs) (length (opening xs)) 0) ≡ false
unfolding level
bare_front xs h = ap (λ k. is_blank (get_or (map sign xs) k 0)) (opening_len xs) ∙ begins (map sign xs) h

pub bare_end : (xs : List Item) → 0 < length (inside xs) → is_blank (get_or (map sign xs) (length (opening xs) + length (inside xs) - 1) 0) ≡ false
bare_end xs h =
    let i = inner_len xs in
    ap (λ k. is_blank (get_or (map sign xs) (k + length (inside xs) - 1) 0)) (opening_len xs)
    ∙ ap (λ k. is_blank (get_or (map sign xs) (open_len (core (map sign xs)) + k - 1) 0)) i
    ∙ ends (map sign xs) (omega (arith, i, h))

pub six : (xs : List Item) → level xs ≤ 6
unfolding level
six xs = (level_small (core (map sign xs))).0
