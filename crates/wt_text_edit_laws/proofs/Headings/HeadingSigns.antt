-- The signs of a heading's line: its kind, its level, and where its delimiters end.
use Rattle.std.proofs.Common.{arith, ◌≡◌, ◌⊎◌, inl, inr, ℕ, zero, suc, ◌+◌, ◌-◌, ◌<◌, ◌≤◌, Bool, true, false, not, List, [], ◌∷◌, ◌++◌, length, take, drop, refl, sym, ap, ap₂, ◌∙◌, subst, append-nil, append_assoc, length-append}
use Rattle.std.specs.Prelude.{◌/◌, ◌==◌, ◌&&◌, ◌||◌, if◌then◌else◌, min, reverse, codes, nat_lt, Some}
use Rattle.std.specs.List.{prefix_len}
use Rattle.std.specs.Option.{unwrap_or}
use Rattle.std.proofs.Math.Seq.{take-append_seam, drop-append_seam}
use Rattle.std.proofs.lemmas.Bool.Decides.{nat_tests}
use Rattle.std.proofs.lemmas.List.{reverse-append, length-replicate}
use Rattle.wt_span.specs.Bytes.{is_blank, blank_len, begins}
use Rattle.wt_lines.specs.declared.kind.LineKind.{LineKind}
use Rattle.wt_lines.specs.declared.kind.LineKind.TheVariants as line
use Rattle.wt_lines.specs.Kinds.{is_mark_sign, is_idle, past, is_idle_all, is_heading, is_list, first_of, open_kind, table_rows, rows as kind_rows, kind_of_signs}
use Rattle.wt_blocks.specs.Headings.{equals as equals_len, core, level_of, open_len, trimmed_len, inside_len}
use Rattle.wt_text_edit_laws.specs.TypedHeadings.{equals, AreBlanks, AreIdle, BeginsWithout, EndsWithout, is_equals_sign}

-- of a heading's line with this between its `=`, and this behind them
abbrev pub line_signs : ℕ → List ℕ → List ℕ → List ℕ
line_signs n ts cs = equals n ++ (ts ++ (equals n ++ cs))

-- up to the last `=`
abbrev pub body_signs : ℕ → List ℕ → List ℕ
body_signs n ts = equals n ++ (ts ++ equals n)

-- ---- backwards

run_end : (n : ℕ) → equals n ++ 61 ∷ [] ≡ equals (suc n)
run_end zero = refl
run_end (suc n) = ap (λ (ss : List ℕ). 61 ∷ ss) (run_end n)

run_back : (n : ℕ) → reverse (equals n) ≡ equals n
run_back zero = refl
run_back (suc n) = reverse-append (61 ∷ []) (equals n) ∙ ap (λ (ss : List ℕ). ss ++ 61 ∷ []) (run_back n) ∙ run_end n

body_back : (n : ℕ) (ts : List ℕ) → reverse (body_signs n ts) ≡ equals n ++ reverse (equals n ++ ts)
body_back n ts =
    ap reverse (sym (append_assoc (equals n) ts (equals n)))
    ∙ reverse-append (equals n ++ ts) (equals n)
    ∙ ap (λ (ss : List ℕ). ss ++ reverse (equals n ++ ts)) (run_back n)

line_is : (n : ℕ) (ts cs : List ℕ) → line_signs n ts cs ≡ body_signs n ts ++ cs
line_is n ts cs =
    ap (λ (ss : List ℕ). equals n ++ ss) (sym (append_assoc ts (equals n) cs)) ∙ sym (append_assoc (equals n) (ts ++ equals n) cs)

line_back : (n : ℕ) (ts cs : List ℕ) → reverse (line_signs n ts cs) ≡ reverse cs ++ (equals n ++ reverse (equals n ++ ts))
line_back n ts cs = ap reverse (line_is n ts cs) ∙ reverse-append (body_signs n ts) cs ∙ ap (λ (ss : List ℕ). reverse cs ++ ss) (body_back n ts)

-- ---- blanks

blanks_joined : (bs cs : List ℕ) → AreBlanks bs → AreBlanks cs → AreBlanks (bs ++ cs)
blanks_joined [] cs h g = g
blanks_joined (b ∷ bs) cs h g = (h.0, blanks_joined bs cs h.1 g)

blanks_back : (bs : List ℕ) → AreBlanks bs → AreBlanks (reverse bs)
blanks_back [] h = tt
blanks_back (b ∷ bs) h = subst AreBlanks (sym (reverse-append (b ∷ []) bs)) (blanks_joined (reverse bs) (b ∷ []) (blanks_back bs h.1) (h.0, tt))

length_back : (bs : List ℕ) → length (reverse bs) ≡ length bs
length_back [] = refl
length_back (b ∷ bs) =
    let e : length (reverse bs) ≡ length bs = length_back bs in
    ap length (reverse-append (b ∷ []) bs) ∙ omega (arith, e, length-append (reverse bs) (b ∷ []))

idle_joined : (bs cs : List ℕ) → AreIdle bs → AreIdle cs → AreIdle (bs ++ cs)
idle_joined [] cs h g = g
idle_joined (b ∷ bs) cs h g = (h.0, idle_joined bs cs h.1 g)

idle_back : (bs : List ℕ) → AreIdle bs → AreIdle (reverse bs)
idle_back [] h = tt
idle_back (b ∷ bs) h = subst AreIdle (sym (reverse-append (b ∷ []) bs)) (idle_joined (reverse bs) (b ∷ []) (idle_back bs h.1) (h.0, tt))

idle_front : (bs ss : List ℕ) → AreIdle bs → prefix_len is_idle (bs ++ 61 ∷ ss) ≡ length bs
idle_front [] ss h = refl
idle_front (b ∷ bs) ss h = let e : is_idle b ≡ true = h.0 in let f = idle_front bs ss h.1 in rw e (omega (arith, f))

past_front : (bs ss : List ℕ) → AreIdle bs → past is_idle (bs ++ 61 ∷ ss) ≡ 61 ∷ ss
past_front [] ss h = refl
past_front (b ∷ bs) ss h = let e : is_idle b ≡ true = h.0 in rw e (past_front bs ss h.1)

blank_by : (s : ℕ) (ss : List ℕ) → is_blank s ≡ false → blank_len (s ∷ ss) ≡ 0
blank_by s ss e = rw e refl

blank_front : (bs ss : List ℕ) → AreBlanks bs → blank_len ss ≡ 0 → blank_len (bs ++ ss) ≡ length bs
blank_front [] ss h e = e
blank_front (b ∷ bs) ss h e = let f = blank_front bs ss h.1 e in let g : is_blank b ≡ true = h.0 in rw g (omega (arith, f))

seen_first : (ss ts : List ℕ) → BeginsWithout is_blank ss → blank_len (ss ++ ts) ≡ 0
seen_first [] ts h = absurd h
seen_first (s ∷ ss) ts h = blank_by s (ss ++ ts) h

ends_back : (ss ts : List ℕ) → EndsWithout is_blank ss → blank_len (reverse ss ++ ts) ≡ 0
ends_back [] ts h = absurd h
ends_back (s ∷ []) ts h = blank_by s ts h
ends_back (s ∷ t ∷ ss) ts h =
    ap (λ (us : List ℕ). blank_len (us ++ ts)) (reverse-append (s ∷ []) (t ∷ ss))
    ∙ ap blank_len (append_assoc (reverse (t ∷ ss)) (s ∷ []) ts)
    ∙ ends_back (t ∷ ss) (s ∷ ts) h

-- ---- the core

core_by : (ss cs : List ℕ) → prefix_len is_idle (reverse (ss ++ cs)) ≡ length cs → core (ss ++ cs) ≡ ss
core_by ss cs e =
    let m : length (ss ++ cs) - prefix_len is_idle (reverse (ss ++ cs)) ≡ length ss = omega (arith, e, length-append ss cs) in
    ap (λ (k : ℕ). take k (ss ++ cs)) m ∙ take-append_seam ss cs

pub core_is : (n : ℕ) (ts cs : List ℕ) → AreIdle cs → core (line_signs (suc n) ts cs) ≡ body_signs (suc n) ts
core_is n ts cs h =
    let back : reverse (body_signs (suc n) ts ++ cs) ≡ reverse cs ++ 61 ∷ (equals n ++ reverse (equals (suc n) ++ ts)) =
    ap reverse (sym (line_is (suc n) ts cs)) ∙ line_back (suc n) ts cs in
    ap core (line_is (suc n) ts cs)
    ∙ core_by (body_signs (suc n) ts) cs
    (ap (prefix_len is_idle) back ∙ idle_front (reverse cs) (equals n ++ reverse (equals (suc n) ++ ts)) (idle_back cs h) ∙ length_back cs)

-- ---- the level

other_first : (ss ts : List ℕ) → BeginsWithout is_equals_sign ss → BeginsWithout is_equals_sign (ss ++ ts)
other_first [] ts h = absurd h
other_first (s ∷ ss) ts h = h

other_back : (ss ts : List ℕ) → EndsWithout is_equals_sign ss → BeginsWithout is_equals_sign (reverse ss ++ ts)
other_back [] ts h = absurd h
other_back (s ∷ []) ts h = h
other_back (s ∷ t ∷ ss) ts h =
    subst (BeginsWithout is_equals_sign) (sym (ap (λ (us : List ℕ). us ++ ts) (reverse-append (s ∷ []) (t ∷ ss)) ∙ append_assoc (reverse (t ∷ ss)) (s ∷ []) ts))
    (other_back (t ∷ ss) (s ∷ ts) h)

none_by : (s : ℕ) (ss : List ℕ) → (s == 61) ≡ false → equals_len (s ∷ ss) ≡ 0
none_by s ss e = rw e refl

none_first : (ss : List ℕ) → BeginsWithout is_equals_sign ss → equals_len ss ≡ 0
none_first [] h = absurd h
none_first (s ∷ ss) h = none_by s ss h

run_len : (n : ℕ) (ss : List ℕ) → BeginsWithout is_equals_sign ss → equals_len (equals n ++ ss) ≡ n
run_len zero ss h = none_first ss h
run_len (suc n) ss h = let e : equals_len (equals n ++ ss) ≡ n = run_len n ss h in omega (arith, e)

body_length : (n : ℕ) (ts : List ℕ) → length (body_signs n ts) ≡ n + (length ts + n)
body_length n ts =
    length-append (equals n) (ts ++ equals n) ∙ omega (arith, length-replicate {A = ℕ} n 61, length-append ts (equals n))

other : (v : Bool) (a b : ℕ) → v ≡ false → (if v then a else b) ≡ b
other true a b e = cc
other false a b e = refl

level_by : (c : List ℕ) (n : ℕ) → equals_len c ≡ n → equals_len (reverse c) ≡ n → n < length c → n ≤ 6 → level_of c ≡ n
level_by c n a b lt le =
    let f : (equals_len c == length c) ≡ false = grind (arith, nat_tests, a, lt) in
    other (equals_len c == length c) (min 6 ((length c - 1) / 2)) (min 6 (min (equals_len c) (equals_len (reverse c)))) f ∙ omega (arith, a, b, le)

pub level_is : (n : ℕ) (ts : List ℕ) → 1 ≤ n → n ≤ 6 → BeginsWithout is_equals_sign ts → EndsWithout is_equals_sign ts → level_of (body_signs n ts) ≡ n
level_is n ts some le h g =
    level_by (body_signs n ts) n (run_len n (ts ++ equals n) (other_first ts (equals n) h))
    (ap equals_len (body_back n ts ∙ ap (λ (ss : List ℕ). equals n ++ ss) (reverse-append (equals n) ts))
    ∙ run_len n (reverse ts ++ reverse (equals n)) (other_back ts (reverse (equals n)) g))
    (omega (arith, some, body_length n ts)) le

-- ---- the delimiters

drop_run : (n : ℕ) (ss : List ℕ) → drop n (equals n ++ ss) ≡ ss
drop_run n ss = ap (λ (k : ℕ). drop k (equals n ++ ss)) (sym (length-replicate {A = ℕ} n 61)) ∙ drop-append_seam (equals n) ss

-- the signs of its text, and the blanks round it
abbrev pub round : List ℕ → List ℕ → List ℕ → List ℕ
round bs ss ds = bs ++ (ss ++ ds)

pub open_is : (n : ℕ) (bs ss ds : List ℕ) → level_of (body_signs n (round bs ss ds)) ≡ n → AreBlanks bs → BeginsWithout is_blank ss
    → open_len (body_signs n (round bs ss ds)) ≡ n + length bs
open_is n bs ss ds e h g =
    let c : List ℕ = body_signs n (round bs ss ds) in
    let assoc : round bs ss ds ++ equals n ≡ bs ++ (ss ++ (ds ++ equals n)) =
    append_assoc bs (ss ++ ds) (equals n) ∙ ap (λ (ts : List ℕ). bs ++ ts) (append_assoc ss ds (equals n)) in
    ap (λ (k : ℕ). k + blank_len (drop k c)) e
    ∙ ap (λ (ts : List ℕ). n + blank_len ts) (drop_run n (round bs ss ds ++ equals n) ∙ assoc)
    ∙ ap (λ (k : ℕ). n + k) (blank_front bs (ss ++ (ds ++ equals n)) h (seen_first ss (ds ++ equals n) g))

past_open : (n : ℕ) (bs ss ds : List ℕ) → drop (n + length bs) (body_signs n (round bs ss ds)) ≡ (ss ++ ds) ++ equals n
past_open n bs ss ds =
    let rest : List ℕ = (ss ++ ds) ++ equals n in
    let whole : body_signs n (round bs ss ds) ≡ (equals n ++ bs) ++ rest =
    ap (λ (ts : List ℕ). equals n ++ ts) (append_assoc bs (ss ++ ds) (equals n)) ∙ sym (append_assoc (equals n) bs rest) in
    let size : n + length bs ≡ length (equals n ++ bs) = omega (arith, length-replicate {A = ℕ} n 61, length-append (equals n) bs) in
    ap (λ (k : ℕ). drop k (body_signs n (round bs ss ds))) size ∙ ap (drop (length (equals n ++ bs))) whole ∙ drop-append_seam (equals n ++ bs) rest

trimmed : (ss ds : List ℕ) → AreBlanks ds → EndsWithout is_blank ss → trimmed_len (ss ++ ds) ≡ length ss
trimmed ss ds h e =
    let r : reverse (ss ++ ds) ≡ reverse ds ++ (reverse ss ++ []) = reverse-append ss ds ∙ ap (λ (ts : List ℕ). reverse ds ++ ts) (sym (append-nil (reverse ss))) in
    let b : blank_len (reverse (ss ++ ds)) ≡ length ds =
    ap blank_len r ∙ blank_front (reverse ds) (reverse ss ++ []) (blanks_back ds h) (ends_back ss [] e) ∙ length_back ds in
    ap (λ (k : ℕ). length (ss ++ ds) - k) b ∙ omega (arith, length-append ss ds)

pub inside_is : (n : ℕ) (bs ss ds : List ℕ) → level_of (body_signs n (round bs ss ds)) ≡ n → AreBlanks bs → AreBlanks ds → BeginsWithout is_blank ss → EndsWithout is_blank ss
    → inside_len (body_signs n (round bs ss ds)) ≡ length ss
inside_is n bs ss ds e h g begins ends =
    let c : List ℕ = body_signs n (round bs ss ds) in
    let m : length c - n - (n + length bs) ≡ length (ss ++ ds) = omega (arith, body_length n (round bs ss ds), length-append bs (ss ++ ds)) in
    ap (λ (k : ℕ). trimmed_len (take (length c - k - open_len c) (drop (open_len c) c))) e
    ∙ ap (λ (k : ℕ). trimmed_len (take (length c - n - k) (drop k c))) (open_is n bs ss ds e h begins)
    ∙ ap (λ (k : ℕ). trimmed_len (take k (drop (n + length bs) c))) m
    ∙ ap (λ (ts : List ℕ). trimmed_len (take (length (ss ++ ds)) ts)) (past_open n bs ss ds)
    ∙ ap trimmed_len (take-append_seam (ss ++ ds) (equals n))
    ∙ trimmed ss ds g ends

-- neither first nor last is a blank, or nothing is there, nor is a blank behind it
abbrev pub AreSeen : List ℕ → List ℕ → Type 0
AreSeen ss ds = (BeginsWithout is_blank ss × EndsWithout is_blank ss) ⊎ ((ss ≡ []) × (ds ≡ []))

run_unblank : (n : ℕ) → blank_len (equals n) ≡ 0
run_unblank zero = refl
run_unblank (suc n) = refl

open_none : (n : ℕ) (bs : List ℕ) → level_of (body_signs n (round bs [] [])) ≡ n → AreBlanks bs → open_len (body_signs n (round bs [] [])) ≡ n + length bs
open_none n bs e h =
    let c : List ℕ = body_signs n (round bs [] []) in
    ap (λ (k : ℕ). k + blank_len (drop k c)) e
    ∙ ap (λ (ts : List ℕ). n + blank_len ts) (drop_run n (round bs [] [] ++ equals n) ∙ append_assoc bs [] (equals n))
    ∙ ap (λ (k : ℕ). n + k) (blank_front bs (equals n) h (run_unblank n))

zero_taken : (ts : List ℕ) → trimmed_len (take 0 ts) ≡ 0
zero_taken [] = refl
zero_taken (t ∷ ts) = refl

inside_none : (n : ℕ) (bs : List ℕ) → level_of (body_signs n (round bs [] [])) ≡ n → AreBlanks bs → inside_len (body_signs n (round bs [] [])) ≡ 0
inside_none n bs e h =
    let c : List ℕ = body_signs n (round bs [] []) in
    let nil : List ℕ = [] in
    let m : length c - n - (n + length bs) ≡ 0 = omega (arith, body_length n (round bs [] []), length-append bs nil) in
    ap (λ (k : ℕ). trimmed_len (take (length c - k - open_len c) (drop (open_len c) c))) e
    ∙ ap (λ (k : ℕ). trimmed_len (take (length c - n - k) (drop k c))) (open_none n bs e h)
    ∙ ap (λ (k : ℕ). trimmed_len (take k (drop (n + length bs) c))) m
    ∙ zero_taken (drop (n + length bs) c)

pub open_seen : (n : ℕ) (bs ss ds : List ℕ) → level_of (body_signs n (round bs ss ds)) ≡ n → AreBlanks bs → AreSeen ss ds
    → open_len (body_signs n (round bs ss ds)) ≡ n + length bs
open_seen n bs ss ds e h (inl g) = open_is n bs ss ds e h g.0
open_seen n bs ss ds e h (inr g) =
    let same : body_signs n (round bs ss ds) ≡ body_signs n (round bs [] []) = ap₂ (λ (xs ys : List ℕ). body_signs n (round bs xs ys)) g.0 g.1 in
    ap open_len same ∙ open_none n bs (sym (ap level_of same) ∙ e) h

pub inside_seen : (n : ℕ) (bs ss ds : List ℕ) → level_of (body_signs n (round bs ss ds)) ≡ n → AreBlanks bs → AreBlanks ds → AreSeen ss ds
    → inside_len (body_signs n (round bs ss ds)) ≡ length ss
inside_seen n bs ss ds e h b (inl g) = inside_is n bs ss ds e h b g.0 g.1
inside_seen n bs ss ds e h b (inr g) =
    let same : body_signs n (round bs ss ds) ≡ body_signs n (round bs [] []) = ap₂ (λ (xs ys : List ℕ). body_signs n (round bs xs ys)) g.0 g.1 in
    ap inside_len same ∙ inside_none n bs (sym (ap level_of same) ∙ e) h ∙ sym (ap length g.0)

-- ---- the kind

some_length : (s : ℕ) (ss : List ℕ) → (length (s ∷ ss) == 0) ≡ false
some_length s ss = grind (arith, nat_tests)

past_by : (v : Bool) (ps qs : List ℕ) → (length ps == 0) ≡ false → (length qs == 0) ≡ false → (length (if v then ps else qs) == 0) ≡ false
past_by true ps qs e f = e
past_by false ps qs e f = f

visible : (ss ts : List ℕ) → is_idle_all (ss ++ 61 ∷ ts) ≡ false
visible [] ts = some_length 61 ts
visible (s ∷ ss) ts = past_by (is_idle s) (past is_idle (ss ++ 61 ∷ ts)) (s ∷ ss ++ 61 ∷ ts) (visible ss ts) (some_length s (ss ++ 61 ∷ ts))

-- behind one `=`, and behind two signs
text_visible : (front ts : List ℕ) (n : ℕ) (cs : List ℕ) → is_idle_all (front ++ (ts ++ (equals (suc n) ++ cs))) ≡ false
text_visible front ts n cs = ap is_idle_all (sym (append_assoc front ts (equals (suc n) ++ cs))) ∙ visible (front ++ ts) (equals n ++ cs)

-- something is there
abbrev pub HasSign : List ℕ → Type 0
HasSign [] = ⊥
HasSign (s ∷ ss) = Unit {0}

some_sign : (ss ts : List ℕ) → BeginsWithout is_blank ss → HasSign (ss ++ ts)
some_sign [] ts h = absurd h
some_sign (s ∷ ss) ts h = tt

pub signs_between : (bs ss ds : List ℕ) → BeginsWithout is_blank ss → HasSign (round bs ss ds)
signs_between [] ss ds h = some_sign ss ds h
signs_between (b ∷ bs) ss ds h = tt

-- `=` alone are of a lower level
some_blank : (n : ℕ) → level_of (body_signs n []) ≡ n → 1 ≤ n → n ≤ 6 → ⊥
some_blank zero e le six = omega (arith, le)
some_blank (suc zero) e le six = let z : 0 ≡ 1 = e in omega (arith, z)
some_blank (suc (suc zero)) e le six = let z : 1 ≡ 2 = e in omega (arith, z)
some_blank (suc (suc (suc zero))) e le six = let z : 2 ≡ 3 = e in omega (arith, z)
some_blank (suc (suc (suc (suc zero)))) e le six = let z : 3 ≡ 4 = e in omega (arith, z)
some_blank (suc (suc (suc (suc (suc zero))))) e le six = let z : 4 ≡ 5 = e in omega (arith, z)
some_blank (suc (suc (suc (suc (suc (suc zero)))))) e le six = let z : 5 ≡ 6 = e in omega (arith, z)
some_blank (suc (suc (suc (suc (suc (suc (suc n))))))) e le six = omega (arith, six)

pub signs_seen : (n : ℕ) (bs ss ds : List ℕ) → level_of (body_signs n (round bs ss ds)) ≡ n → 1 ≤ n → n ≤ 6 → AreSeen ss ds → HasSign (round bs ss ds)
signs_seen n bs ss ds e le six (inl g) = signs_between bs ss ds g.0
signs_seen n [] ss ds e le six (inr g) =
    let same : round [] ss ds ≡ [] = ap₂ (λ (xs ys : List ℕ). round [] xs ys) g.0 g.1 in
    absurd (some_blank n (sym (ap (λ (ts : List ℕ). level_of (body_signs n ts)) same) ∙ e) le six)
signs_seen n (b ∷ bs) ss ds e le six (inr g) = tt

rest_visible : (n : ℕ) (ts cs : List ℕ) → HasSign ts → is_idle_all (drop 2 (line_signs (suc n) ts cs)) ≡ false
rest_visible zero [] cs h = absurd h
rest_visible zero (t ∷ ts) cs h = visible ts cs
rest_visible (suc n) ts cs h = text_visible (equals n) ts (suc n) cs

heading_test : (a b d : Bool) → b ≡ false → d ≡ false → not (b || (a && d)) ≡ true
heading_test a true d e f = cc
heading_test true false true e f = cc
heading_test true false false e f = refl
heading_test false false d e f = refl

-- A line that begins with `=` is of no kind that counts in a table alone.
past_tables : (t : Bool) (k : LineKind) (ss r : List ℕ) (more : List (Bool × LineKind)) → is_heading (61 ∷ ss) r ≡ true
    → unwrap_or (first_of ((false, line.Blank) ∷ (false, k) ∷ ((if t then table_rows (61 ∷ ss) else []) ++ (is_heading (61 ∷ ss) r, line.Heading) ∷ more))) line.Text
    ≡ line.Heading
past_tables true k ss r more e = ap (λ (h : Bool). unwrap_or (if h then Some line.Heading else first_of more) line.Text) e
past_tables false k ss r more e = ap (λ (h : Bool). unwrap_or (if h then Some line.Heading else first_of more) line.Text) e

-- where any number of tables are open
pub kind_is : (tables n : ℕ) (ts cs : List ℕ) → AreIdle cs → HasSign ts → kind_of_signs tables (line_signs (suc n) ts cs) ≡ line.Heading
unfolding kind_of_signs
kind_is tables n ts cs b h =
    let c : List ℕ = line_signs (suc n) ts cs in
    let r : List ℕ = equals (suc n) ++ reverse (equals (suc n) ++ ts) in
    let more : List (Bool × LineKind) = (begins (codes "----") c, line.Rule) ∷ (is_list c, line.List) ∷ (begins (codes " ") c, line.Pre) ∷ [] in
    let rows : List (Bool × LineKind) = (if nat_lt 0 tables then table_rows c else []) ++ (is_heading c r, line.Heading) ∷ more in
    let last : past is_idle (reverse c) ≡ r =
    ap (past is_idle) (line_back (suc n) ts cs) ∙ past_front (reverse cs) (equals n ++ reverse (equals (suc n) ++ ts)) (idle_back cs b) in
    ap (λ (s : List ℕ). unwrap_or (first_of (kind_rows tables (past is_idle c) (past is_mark_sign c) s)) line.Text) last
    ∙ ap (λ (a : Bool). unwrap_or (first_of ((a, line.Blank) ∷ (false, open_kind tables) ∷ rows)) line.Text) (some_length 61 (drop 1 c))
    ∙ past_tables (nat_lt 0 tables) (open_kind tables) (drop 1 c) r more
    (heading_test (begins (codes "==") c) (is_idle_all (drop 1 c)) (is_idle_all (drop 2 c)) (text_visible (equals n) ts n cs) (rest_visible n ts cs h))
