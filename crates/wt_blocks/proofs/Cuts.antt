-- The delimiters of a heading, counted from both ends of its line.
use Rattle.std.proofs.Common.{◌≡◌, ℕ, zero, suc, ◌+◌, ◌-◌, ◌/◌, ◌<◌, ◌≤◌, Bool, true, false, List, [], ◌∷◌, length, get_or, take, drop, refl, sym, ap, ◌∙◌, cond, arith, length-drop}
use Rattle.std.specs.Prelude.{◌==◌, min, reverse, if◌then◌else◌}
use Rattle.std.specs.List.{prefix_len}
use Rattle.std.proofs.Math.Numerals.{one-add}
use Rattle.std.proofs.lemmas.List.{get_or-take, get_or-drop, get_or-reverse, length-take-le, length-reverse, take_all, same_lists, drop-drop}
use Rattle.std.proofs.lemmas.List.Sums.{prefix_len-le-length}
use Rattle.wt_span.specs.Bytes.{is_blank, blank_len}
use Rattle.wt_lines.specs.Kinds.{is_idle, past}
use Rattle.wt_blocks.specs.Headings.{equals, core, level_of, open_len, trimmed_len, inside_len}

-- ---- fronts and ends of lists

front_case : (n k : ℕ) (v : Bool) → cond v (1 + min n k) 0 ≡ min (suc n) (cond v (1 + k) 0)
front_case n k true = omega arith
front_case n k false = omega arith

prefix_taken : {A : Type 0} (p : A → Bool) (n : ℕ) (xs : List A) → prefix_len p (take n xs) ≡ min n (prefix_len p xs)
prefix_taken p zero xs = omega arith
prefix_taken p (suc n) [] = omega arith
prefix_taken p (suc n) (x ∷ xs) = ap (λ k. cond (p x) (1 + k) 0) (prefix_taken p n xs) ∙ front_case n (prefix_len p xs) (p x)

past_by : (p : ℕ → Bool) (x : ℕ) (xs : List ℕ) (v : Bool) → past p xs ≡ drop (prefix_len p xs) xs
    → cond v (past p xs) (x ∷ xs) ≡ drop (cond v (1 + prefix_len p xs) 0) (x ∷ xs)
past_by p x xs true e = rw (one-add (prefix_len p xs)) e
past_by p x xs false e = refl

pub past_is : (p : ℕ → Bool) (xs : List ℕ) → past p xs ≡ drop (prefix_len p xs) xs
past_is p [] = refl
past_is p (x ∷ xs) = past_by p x xs (p x) (past_is p xs)

none_taken : {A : Type 0} (n : ℕ) → take n (let xs : List A = [] in xs) ≡ []
none_taken zero = refl
none_taken (suc n) = refl

dropped_taken : {A : Type 0} (l c : ℕ) (xs : List A) → drop l (take c xs) ≡ take (c - l) (drop l xs)
dropped_taken zero c xs = let e : c - 0 ≡ c = omega arith in ap (λ n. take n xs) (sym e)
dropped_taken (suc l) zero xs = let e : 0 - suc l ≡ 0 = omega arith in ap (λ n. take n (drop (suc l) xs)) (sym e)
dropped_taken (suc l) (suc c) [] = sym (none_taken (suc c - suc l))
dropped_taken (suc l) (suc c) (x ∷ xs) = let e : suc c - suc l ≡ c - l = omega arith in dropped_taken l c xs ∙ ap (λ n. take n (drop l xs)) (sym e)

-- a middle part from the back
pub middle : (xs : List ℕ) (o d l : ℕ) → o + d + l ≡ length xs → reverse (take d (drop o xs)) ≡ take d (drop l (reverse xs))
middle xs o d l e =
    let r = length-reverse xs in
    let tl : length (take d (drop o xs)) ≡ d = length-take-le d (drop o xs) (omega (arith, length-drop o xs)) in
    let rl : length (reverse (take d (drop o xs))) ≡ d = length-reverse (take d (drop o xs)) ∙ tl in
    let ul : length (take d (drop l (reverse xs))) ≡ d = length-take-le d (drop l (reverse xs)) (omega (arith, length-drop l (reverse xs), r)) in
    same_lists (reverse (take d (drop o xs))) (take d (drop l (reverse xs))) (rl ∙ sym ul)
    (λ k x h.
    let kd : k < d = omega (arith, rl) in
    let i : o + (length (take d (drop o xs)) - 1 - k) ≡ length xs - 1 - (l + k) = omega (arith, tl) in
    get_or-reverse (take d (drop o xs)) k x (omega (arith, tl))
    ∙ get_or-take d (drop o xs) (length (take d (drop o xs)) - 1 - k) x (omega (arith, tl))
    ∙ get_or-drop o xs (length (take d (drop o xs)) - 1 - k) x
    ∙ ap (λ n. get_or xs n x) i
    ∙ sym (get_or-take d (drop l (reverse xs)) k x kd ∙ get_or-drop l (reverse xs) k x ∙ get_or-reverse xs (l + k) x (omega arith)))

-- ---- up to the last visible sign that is no blank

pub idle_within : (ss : List ℕ) → prefix_len is_idle (reverse ss) ≤ length ss
idle_within ss = let a = prefix_len-le-length is_idle (reverse ss) in let b = length-reverse ss in omega (arith, a, b)

pub core_is : (ss : List ℕ) → length (core ss) ≡ length ss - prefix_len is_idle (reverse ss)
core_is ss = length-take-le (length ss - prefix_len is_idle (reverse ss)) ss (omega arith)

pub core_len : (ss : List ℕ) (count idle : ℕ) → count ≡ length ss → idle ≡ min count (prefix_len is_idle (reverse ss)) → count - idle ≡ length (core ss)
core_len ss count idle e f = let a = idle_within ss in let b = core_is ss in omega (arith, a, b, e, f)

pub core_back : (ss : List ℕ) → reverse (core ss) ≡ past is_idle (reverse ss)
core_back ss =
    let j = prefix_len is_idle (reverse ss) in
    let a = idle_within ss in
    let b = length-reverse ss in
    middle ss 0 (length ss - j) j (omega (arith, a))
    ∙ take_all (length ss - j) (drop j (reverse ss)) (omega (arith, length-drop j (reverse ss), b))
    ∙ sym (past_is is_idle (reverse ss))

equals_core : (ss : List ℕ) → equals (core ss) ≡ min (length (core ss)) (equals ss)
equals_core ss = prefix_taken (λ s. s == 61) (length ss - prefix_len is_idle (reverse ss)) ss ∙ ap (λ n. min n (equals ss)) (sym (core_is ss))

-- ---- the level

level_by : (c a b : ℕ) (v : Bool) → cond v (min 6 ((c - 1) / 2)) (min 6 (min a (min 6 b))) ≡ cond v (min 6 ((c - 1) / 2)) (min 6 (min a b))
level_by c a b true = refl
level_by c a b false = omega arith

pub level_is : (ss : List ℕ) (c first last level : ℕ) → c ≡ length (core ss) → first ≡ min c (equals ss) → last ≡ min 6 (equals (past is_idle (reverse ss)))
    → level ≡ (if first == c then min 6 ((c - 1) / 2) else min 6 (min first last)) → level ≡ level_of (core ss)
level_is ss c first last level ec ef el e =
    let f : first ≡ equals (core ss) = ef ∙ ap (λ n. min n (equals ss)) ec ∙ sym (equals_core ss) in
    let l : last ≡ min 6 (equals (reverse (core ss))) = el ∙ ap (λ xs. min 6 (equals xs)) (sym (core_back ss)) in
    e
    ∙ ap (λ n. cond (n == c) (min 6 ((c - 1) / 2)) (min 6 (min n last))) f
    ∙ ap (λ n. cond (equals (core ss) == n) (min 6 ((n - 1) / 2)) (min 6 (min (equals (core ss)) last))) ec
    ∙ ap (λ n. cond (equals (core ss) == length (core ss)) (min 6 ((length (core ss) - 1) / 2)) (min 6 (min (equals (core ss)) n))) l
    ∙ level_by (length (core ss)) (equals (core ss)) (equals (reverse (core ss))) (equals (core ss) == length (core ss))

small_by : (c a b : ℕ) (v : Bool) → a ≤ c → (cond v (min 6 ((c - 1) / 2)) (min 6 (min a b)) ≤ 6) × (cond v (min 6 ((c - 1) / 2)) (min 6 (min a b)) ≤ c)
small_by c a b true h = (omega arith, omega arith)
small_by c a b false h = (omega arith, omega arith)

pub level_small : (c : List ℕ) → (level_of c ≤ 6) × (level_of c ≤ length c)
level_small c = small_by (length c) (equals c) (equals (reverse c)) (equals c == length c) (prefix_len-le-length (λ s. s == 61) c)

pub level_fits : (c : List ℕ) (level : ℕ) → level ≡ level_of c → level < 256
level_fits c level e = let a = level_small c in omega (arith, a.0, e)

-- ---- the delimiters

pub open_is : (ss : List ℕ) (c level rest blanks : ℕ) → c ≡ length (core ss) → level ≡ level_of (core ss) → rest ≡ c - level
    → blanks ≡ min rest (blank_len (drop level ss)) → level + blanks ≡ open_len (core ss)
open_is ss c level rest blanks ec el er eb =
    let r : rest ≡ length ss - prefix_len is_idle (reverse ss) - level = er ∙ ap (λ n. n - level) (ec ∙ core_is ss) in
    let b : blanks ≡ blank_len (drop level (core ss)) =
    eb ∙ ap (λ n. min n (blank_len (drop level ss))) r ∙ sym (prefix_taken is_blank (length ss - prefix_len is_idle (reverse ss) - level) (drop level ss))
    ∙ ap blank_len (sym (dropped_taken level (length ss - prefix_len is_idle (reverse ss)) ss)) in
    ap (λ n. level + n) b ∙ ap (λ n. n + blank_len (drop n (core ss))) el

pub between : (c : List ℕ) (o d l : ℕ) → d ≡ length c - l - o → blank_len (reverse (take d (drop o c))) ≡ min d (blank_len (drop l (reverse c)))
between c o zero l e = omega arith
between c o (suc d) l e = ap blank_len (middle c o (suc d) l (omega arith)) ∙ prefix_taken is_blank (suc d) (drop l (reverse c))

pub inside_is : (ss : List ℕ) (c level rest opened d blanks : ℕ) → c ≡ length (core ss) → level ≡ level_of (core ss)
    → rest ≡ c - level → opened ≡ open_len (core ss) → d ≡ rest - opened
    → blanks ≡ min d (blank_len (drop level (past is_idle (reverse ss)))) → d - blanks ≡ inside_len (core ss)
inside_is ss c level rest opened d blanks ec el er eo ed eb =
    let k = core ss in
    let de : d ≡ length k - level_of k - open_len k = omega (arith, ec, el, er, eo, ed) in
    let b : blanks ≡ blank_len (reverse (take d (drop (open_len k) k))) =
    eb ∙ ap (λ n. min d (blank_len (drop n (past is_idle (reverse ss))))) el ∙ ap (λ xs. min d (blank_len (drop (level_of k) xs)))
    (sym (core_back ss)) ∙ sym (between k (open_len k) d (level_of k) de) in
    let tl : length (take d (drop (open_len k) k)) ≡ d = length-take-le d (drop (open_len k) k) (omega (arith, length-drop (open_len k) k, de)) in
    ap (λ n. d - n) b ∙ ap (λ n. n - blank_len (reverse (take d (drop (open_len k) k)))) (sym tl) ∙ ap (λ n. trimmed_len (take n (drop (open_len k) k))) de

-- both lie on the line
pub cuts_within : (ss : List ℕ) → open_len (core ss) + inside_len (core ss) ≤ length ss
cuts_within ss =
    let c = core ss in
    let a = level_small c in
    let b = prefix_len-le-length is_blank (drop (level_of c) c) in
    let d = length-drop (level_of c) c in
    let w = core_is ss in
    let n = length c - level_of c - open_len c in
    let tl : length (take n (drop (open_len c) c)) ≡ n = length-take-le n (drop (open_len c) c) (omega (arith, length-drop (open_len c) c)) in
    omega (arith, a.1, b, d, w, tl)

-- one sign further
pub one_further : (whole s t : List ℕ) (i b : ℕ) → s ≡ b ∷ t → s ≡ drop i whole → t ≡ drop (i + 1) whole
one_further whole s t i b e h = sym (ap (drop 1) e) ∙ ap (drop 1) h ∙ drop-drop 1 i whole
