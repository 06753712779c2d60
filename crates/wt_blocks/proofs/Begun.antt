-- The nest by runs, and what begins at each line.
use Rattle.std.proofs.Common.{◌≡◌, ℕ, zero, suc, ◌+◌, ◌-◌, ◌*◌, ◌<◌, ◌≤◌, Bool, true, false, List, [], ◌∷◌, ◌++◌, length, get_or, drop, map, refl, sym, ap, ◌∙◌, subst, cond, arith, append_assoc}
use Rattle.std.specs.Prelude.{◌==◌, nat_lt}
use Rattle.std.specs.List.{All, AllByRecursion}
use Rattle.std.proofs.lemmas.Bool.Decides.{nat_tests}
use Rattle.wt_span.specs.Runs.{runs, IsRun, AreRuns}
use Rattle.wt_span.proofs.RunLaws.{runs_are}
use Rattle.wt_blocks.specs.ListTree.{forest}
use Rattle.wt_blocks.specs.Nesting.{ListLine, IsPrefix, numbered, nested, same_list, sign_of, one_list, goes_on, one_item, without_sign, inner, node_of, item_by, list_by, lists}
use Rattle.wt_blocks.specs.Starts.{Row, rows, rows_of_all, common, last_sign, opened, begun_by, begun}

-- ---- lines

-- some signs, and so many at most
abbrev pub AreBounded : ℕ → List ListLine → Type 0
AreBounded n ls = AllByRecursion (λ l. (0 < length l.prefix) × (length l.prefix ≤ n)) ls

abbrev AllGoOn : List ListLine → Type 0
AllGoOn ls = AllByRecursion (λ l. goes_on l ≡ true) ls

-- each is of the list of the line before
abbrev Alike : List ℕ → List ListLine → Type 0
Alike before [] = Unit {0}
Alike before (l ∷ ls) = (same_list (get_or before 0 0) (sign_of l) ≡ true) × Alike l.prefix ls

-- the prefix of the last line, or the one before
abbrev last_prefix : List ℕ → List ListLine → List ℕ
last_prefix before [] = before
last_prefix before (l ∷ ls) = last_prefix l.prefix ls

begun_append : (d : ℕ) (before : List ℕ) (ls ms : List ListLine) → begun d before (ls ++ ms) ≡ begun d before ls ++ begun d (last_prefix before ls) ms
begun_append d before [] ms = refl
begun_append d before (l ∷ ls) ms =
    ap (λ rs. begun_by d (common before l.prefix) l.number l.prefix ++ rs) (begun_append d l.prefix ls ms)
    ∙ sym (append_assoc (begun_by d (common before l.prefix) l.number l.prefix) (begun d l.prefix ls) (begun d (last_prefix l.prefix ls) ms))

bounded_front : (n : ℕ) (ls ms : List ListLine) → AreBounded n (ls ++ ms) → AreBounded n ls
bounded_front n [] ms h = tt
bounded_front n (l ∷ ls) ms h = (h.0, bounded_front n ls ms h.1)

bounded_back : (n : ℕ) (ls ms : List ListLine) → AreBounded n (ls ++ ms) → AreBounded n ms
bounded_back n [] ms h = h
bounded_back n (l ∷ ls) ms h = bounded_back n ls ms h.1

alike_front : (before : List ℕ) (ls ms : List ListLine) → Alike before (ls ++ ms) → Alike before ls
alike_front before [] ms h = tt
alike_front before (l ∷ ls) ms h = (h.0, alike_front l.prefix ls ms h.1)

alike_back : (before : List ℕ) (ls ms : List ListLine) → Alike before (ls ++ ms) → Alike (last_prefix before ls) ms
alike_back before [] ms h = h
alike_back before (l ∷ ls) ms h = alike_back l.prefix ls ms h.1

some_last : (n : ℕ) (before : List ℕ) (ls : List ListLine) → 0 < length before → AreBounded n ls → 0 < length (last_prefix before ls)
some_last n before [] s h = s
some_last n before (l ∷ ls) s h = some_last n l.prefix ls h.0.0 h.1

-- ---- signs in common

none_common : (p q : List ℕ) → same_list (get_or p 0 0) (get_or q 0 0) ≡ false → common p q ≡ 0
none_common [] q e = refl
none_common (c ∷ p) [] e = refl
none_common (c ∷ p) (f ∷ q) e = rw e refl

-- a line of another list begins as one after no line
begun_apart : (d : ℕ) (before : List ℕ) (l : ListLine) (ls : List ListLine) → same_list (get_or before 0 0) (sign_of l) ≡ false
    → begun d before (l ∷ ls) ≡ begun d [] (l ∷ ls)
begun_apart d before l ls e = ap (λ n. begun_by d n l.number l.prefix ++ begun d l.prefix ls) (none_common before l.prefix e)

same_suc : (a b : ℕ) → (suc a == suc b) ≡ (a == b)
same_suc a b = grind (arith, nat_tests)

-- one sign less on both sides
deeper_by : (d n k c e : ℕ) (p : List ℕ) → begun_by d (suc n) k (c ∷ e ∷ p) ≡ begun_by (suc (suc d)) n k (e ∷ p)
deeper_by d n k c e p =
    let one : d + (2 * suc (suc (length p)) - 1) ≡ suc (suc d) + (2 * suc (length p) - 1) = omega arith in
    let two : d + 2 * suc n ≡ suc (suc d) + 2 * n = omega arith in
    ap (λ v. cond v (record { depth = d + (2 * suc (suc (length p)) - 1); item = true; sign = last_sign (e ∷ p); line = k } ∷ [])
    (opened (d + 2 * suc n) k (drop n (e ∷ p)))) (same_suc n (suc (length p)))
    ∙ ap (λ m. cond (n == suc (length p)) (record { depth = m; item = true; sign = last_sign (e ∷ p); line = k } ∷ [])
    (opened (d + 2 * suc n) k (drop n (e ∷ p)))) one
    ∙ ap (λ m. cond (n == suc (length p)) (record {
      depth = suc (suc d) + (2 * suc (length p) - 1);
      item = true;
      sign =
          last_sign (e ∷ p);
      line = k;
    } ∷ []) (opened m k (drop n (e ∷ p)))) two

deeper_one : (d k : ℕ) (before p : List ℕ) → 0 < length before → nat_lt 1 (length p) ≡ true → same_list (get_or before 0 0) (get_or p 0 0) ≡ true
    → begun_by d (common before p) k p ≡ begun_by (suc (suc d)) (common (drop 1 before) (drop 1 p)) k (drop 1 p)
deeper_one d k [] p s g e = absurd (omega arith)
deeper_one d k (b ∷ before) [] s g e = cc
deeper_one d k (b ∷ before) (c ∷ []) s g e = cc
deeper_one d k (b ∷ before) (c ∷ f ∷ p) s g e = rw e (deeper_by d (common before (f ∷ p)) k c f p)

deeper : (n d : ℕ) (before : List ℕ) (ls : List ListLine) → 0 < length before → AreBounded n ls → AllGoOn ls → Alike before ls
    → begun d before ls ≡ begun (suc (suc d)) (drop 1 before) (map without_sign ls)
deeper n d before [] s b g a = refl
deeper n d before (l ∷ ls) s b g a =
    ap (λ rs. rs ++ begun d l.prefix ls) (deeper_one d l.number before l.prefix s g.0 a.0)
    ∙ ap (λ rs. begun_by (suc (suc d)) (common (drop 1 before) (drop 1 l.prefix)) l.number (drop 1 l.prefix) ++ rs) (deeper n d l.prefix ls b.0.0 b.1 g.1 a.1)

-- ---- an item

-- the lines of an item but the first
item_goes_on : (l : ListLine) (ls others : List ListLine) → IsRun one_item (l ∷ ls) others → AllGoOn ls
item_goes_on l [] others r = tt
item_goes_on l (m ∷ ls) others r = (r.0, item_goes_on m ls others r.1)

-- what comes after it doesn't go on
item_ends : (l : ListLine) (ls : List ListLine) (m : ListLine) (ms : List ListLine) → IsRun one_item (l ∷ ls) (m ∷ ms) → goes_on m ≡ false
item_ends l [] m ms r = r
item_ends l (k ∷ ls) m ms r = item_ends k ls m ms r.1

all_inner : (ls : List ListLine) → AllGoOn ls → inner ls ≡ map without_sign ls
all_inner [] g = refl
all_inner (l ∷ ls) g = rw g.0 (ap (λ (ms : List ListLine). without_sign l ∷ ms) (all_inner ls g.1))

inner_with : (l : ListLine) (ls : List ListLine) → goes_on l ≡ true → AllGoOn ls → inner (l ∷ ls) ≡ without_sign l ∷ map without_sign ls
inner_with l ls e g = rw e (ap (λ (ms : List ListLine). without_sign l ∷ ms) (all_inner ls g))

inner_without : (l : ListLine) (ls : List ListLine) → goes_on l ≡ false → AllGoOn ls → inner (l ∷ ls) ≡ map without_sign ls
inner_without l ls e g = rw e (all_inner ls g)

bounded_one : (n : ℕ) (p : List ℕ) → nat_lt 1 (length p) ≡ true → length p ≤ suc n → (0 < length (drop 1 p)) × (length (drop 1 p) ≤ n)
bounded_one n [] g b = cc
bounded_one n (c ∷ []) g b = cc
bounded_one n (c ∷ e ∷ p) g b = (omega arith, omega arith)

bounded_inner : (n : ℕ) (ls : List ListLine) → AllGoOn ls → AreBounded (suc n) ls → AreBounded n (map without_sign ls)
bounded_inner n [] g b = tt
bounded_inner n (l ∷ ls) g b = (bounded_one n l.prefix g.0 b.0.1, bounded_inner n ls g.1 b.1)

-- what is to be shown of one sign less
abbrev pub Shown : ℕ → Type 0
Shown n = (d : ℕ) (ls : List ListLine) → AreBounded n ls → rows_of_all d (forest (lists n ls)) ≡ begun d [] ls

-- ---- what an item holds

first_begun : (d k : ℕ) (p : List ℕ) → 0 < length p → begun_by d 0 k p ≡ opened d k p
first_begun d k [] s = absurd (omega arith)
first_begun d k (c ∷ p) s =
    let z : d + 0 ≡ d = omega arith in
    let v : (0 == suc (length p)) ≡ false = grind (arith, nat_tests) in
    ap (λ w. cond w (record { depth = d + (2 * suc (length p) - 1); item = true; sign = last_sign (c ∷ p); line = k } ∷ [])
    (opened (d + 2 * 0) k (c ∷ p))) v ∙ ap (λ m. opened m k (c ∷ p)) z

short : (p : List ℕ) → nat_lt 1 (length p) ≡ false → drop 1 p ≡ []
short [] e = refl
short (c ∷ []) e = refl
short (c ∷ f ∷ p) e = let g : nat_lt 1 (suc (suc (length p))) ≡ true = grind (arith, nat_tests) in cc

inside_by : (n d : ℕ) (l : ListLine) (ls : List ListLine) (v : Bool) → goes_on l ≡ v → Shown n → AllGoOn ls → AreBounded (suc n) (l ∷ ls) → Alike l.prefix ls
    → rows_of_all (suc (suc d)) (forest (lists n (inner (l ∷ ls)))) ≡ opened (suc (suc d)) l.number (drop 1 l.prefix) ++ begun d l.prefix ls
inside_by n d l ls true e h g b a =
    let one = bounded_one n l.prefix e b.0.1 in
    ap (λ ms. rows_of_all (suc (suc d)) (forest (lists n ms))) (inner_with l ls e g)
    ∙ h (suc (suc d)) (without_sign l ∷ map without_sign ls) (one, bounded_inner n ls g b.1)
    ∙ ap (λ rs. rs ++ begun (suc (suc d)) (drop 1 l.prefix) (map without_sign ls)) (first_begun (suc (suc d)) l.number (drop 1 l.prefix) one.0)
    ∙ ap (λ rs. opened (suc (suc d)) l.number (drop 1 l.prefix) ++ rs) (sym (deeper (suc n) d l.prefix ls b.0.0 b.1 g a))
inside_by n d l ls false e h g b a =
    let z = short l.prefix e in
    ap (λ ms. rows_of_all (suc (suc d)) (forest (lists n ms))) (inner_without l ls e g)
    ∙ h (suc (suc d)) (map without_sign ls) (bounded_inner n ls g b.1)
    ∙ ap (λ p. begun (suc (suc d)) p (map without_sign ls)) (sym z)
    ∙ sym (deeper (suc n) d l.prefix ls b.0.0 b.1 g a)
    ∙ ap (λ p. opened (suc (suc d)) l.number p ++ begun d l.prefix ls) (sym z)

inside : (n d : ℕ) (l : ListLine) (ls : List ListLine) → Shown n → AllGoOn ls → AreBounded (suc n) (l ∷ ls) → Alike l.prefix ls
    → rows_of_all (suc (suc d)) (forest (lists n (inner (l ∷ ls)))) ≡ opened (suc (suc d)) l.number (drop 1 l.prefix) ++ begun d l.prefix ls
inside n d l ls h g b a = inside_by n d l ls (goes_on l) refl h g b a

-- ---- the items of a list

-- the first one, with the list
first_by : (d k : ℕ) (p : List ℕ) (rs : List Row) → 0 < length p
    → record { depth = d; item = false; sign = get_or p 0 0; line = k }
    ∷ record { depth = suc d; item = true; sign = get_or p 0 0; line = k } ∷ (opened (suc (suc d)) k (drop 1 p) ++ rs)
    ≡ begun_by d 0 k p ++ rs
first_by d k [] rs s = absurd (omega arith)
first_by d k (c ∷ p) rs s = ap (λ (qs : List Row). qs ++ rs) (sym (first_begun d k (c ∷ p) s))

first_item : (n d : ℕ) (l : ListLine) (ls : List ListLine) → Shown n → AllGoOn ls → AreBounded (suc n) (l ∷ ls) → Alike l.prefix ls
    → record { depth = d; item = false; sign = sign_of l; line = l.number } ∷ rows (suc d) (item_by (lists n) (l ∷ ls)) ≡ begun d [] (l ∷ ls)
first_item n d l ls h g b a =
    ap (λ (rs : List Row). record { depth = d; item = false; sign = sign_of l; line = l.number }
    ∷ record { depth = suc d; item = true; sign = sign_of l; line = l.number } ∷ rs) (inside n d l ls h g b a)
    ∙ first_by d l.number l.prefix (begun d l.prefix ls) b.0.0

none_left : (p : List ℕ) → common p [] ≡ 0
none_left [] = refl
none_left (c ∷ p) = refl

-- another one, whose first line has one sign
next_by : (d k : ℕ) (before p : List ℕ) (rs : List Row) → 0 < length before → 0 < length p → nat_lt 1 (length p) ≡ false
    → same_list (get_or before 0 0) (get_or p 0 0) ≡ true
    → record { depth = suc d; item = true; sign = get_or p 0 0; line = k } ∷ (opened (suc (suc d)) k (drop 1 p) ++ rs) ≡ begun_by d (common before p) k p ++ rs
next_by d k [] p rs s t g e = absurd (omega arith)
next_by d k (c ∷ before) [] rs s t g e = absurd (omega arith)
next_by d k (c ∷ before) (f ∷ []) rs s t g e =
    let one : suc d ≡ d + (2 * 1 - 1) = omega arith in
    rw (e, none_left before) (ap (λ m. record { depth = m; item = true; sign = f; line = k } ∷ rs) one)
next_by d k (c ∷ before) (f ∷ q ∷ p) rs s t g e = let h : nat_lt 1 (suc (suc (length p))) ≡ true = grind (arith, nat_tests) in cc

next_item : (n d : ℕ) (before : List ℕ) (l : ListLine) (ls : List ListLine) → Shown n → 0 < length before → goes_on l ≡ false
    → AllGoOn ls → AreBounded (suc n) (l ∷ ls) → Alike before (l ∷ ls)
    → rows (suc d) (item_by (lists n) (l ∷ ls)) ≡ begun d before (l ∷ ls)
next_item n d before l ls h s v g b a =
    ap (λ (rs : List Row). record { depth = suc d; item = true; sign = sign_of l; line = l.number } ∷ rs) (inside n d l ls h g b a.1)
    ∙ next_by d l.number before l.prefix (begun d l.prefix ls) s b.0.0 v a.0

-- the first line doesn't go on, if there is one
abbrev Begins : List ListLine → Type 0
Begins [] = Unit {0}
Begins (l ∷ ls) = goes_on l ≡ false

begins_after : (l : ListLine) (ls others : List ListLine) → IsRun one_item (l ∷ ls) others → Begins others
begins_after l ls [] r = tt
begins_after l ls (m ∷ ms) r = item_ends l ls m ms r

next_items : (n d : ℕ) (rs : List (List ListLine)) (all : List ListLine) (before : List ℕ) → Shown n → AreRuns one_item rs all
    → 0 < length before → Begins all → AreBounded (suc n) all → Alike before all
    → rows_of_all (suc d) (forest (map (item_by (lists n)) rs)) ≡ begun d before all
next_items n d [] all before h r s v b a = ap (begun d before) (sym r)
next_items n d ([] ∷ rs) all before h r s v b a = absurd r.2
next_items n d ((l ∷ ls) ∷ rs) all before h r s v b a =
    let others = r.0 in
    let g = item_goes_on l ls others r.2 in
    let bb = subst (AreBounded (suc n)) r.1 b in
    let aa = subst (Alike before) r.1 a in
    let vv = subst Begins r.1 v in
    ap (λ qs. qs ++ rows_of_all (suc d) (forest (map (item_by (lists n)) rs)))
    (next_item n d before l ls h s vv g (bounded_front (suc n) (l ∷ ls) others bb) (alike_front before (l ∷ ls) others aa))
    ∙ ap (λ qs. begun d before (l ∷ ls) ++ qs)
    (next_items n d rs others (last_prefix before (l ∷ ls)) h r.3
    (some_last (suc n) before (l ∷ ls) s (bounded_front (suc n) (l ∷ ls) others bb)) (begins_after l ls others r.2)
    (bounded_back (suc n) (l ∷ ls) others bb) (alike_back before (l ∷ ls) others aa))
    ∙ sym (begun_append d before (l ∷ ls) others)
    ∙ ap (begun d before) (sym r.1)

-- ---- a list

-- its lines are of one list
abbrev Chained : List ListLine → Type 0
Chained [] = Unit {0}
Chained (l ∷ ls) = Alike l.prefix ls

list_alike : (l : ListLine) (ls others : List ListLine) → IsRun one_list (l ∷ ls) others → Alike l.prefix ls
list_alike l [] others r = tt
list_alike l (m ∷ ls) others r = (r.0, list_alike m ls others r.1)

chained : (r others : List ListLine) → IsRun one_list r others → Chained r
chained [] others r = absurd r
chained (l ∷ ls) others r = list_alike l ls others r

list_ends : (l : ListLine) (ls : List ListLine) (m : ListLine) (ms : List ListLine) → IsRun one_list (l ∷ ls) (m ∷ ms)
    → same_list (get_or (last_prefix l.prefix ls) 0 0) (sign_of m) ≡ false
list_ends l [] m ms r = r
list_ends l (k ∷ ls) m ms r = list_ends k ls m ms r.1

one_run : (n d : ℕ) (rs : List (List ListLine)) (all : List ListLine) → Shown n → AreRuns one_item rs all → 0 < length all
    → AreBounded (suc n) all → Chained all
    → rows d (node_of false all (map (item_by (lists n)) rs)) ≡ begun d [] all
one_run n d [] all h r s b a = let z : length all ≡ 0 = ap length r in absurd (omega arith)
one_run n d ([] ∷ rs) all h r s b a = absurd r.2
one_run n d ((l ∷ ls) ∷ rs) all h r s b a =
    let others = r.0 in
    let g = item_goes_on l ls others r.2 in
    let bb = subst (AreBounded (suc n)) r.1 b in
    let aa = subst Chained r.1 a in
    let ff = bounded_front (suc n) (l ∷ ls) others bb in
    ap (λ ms. rows d (node_of false ms (map (item_by (lists n)) ((l ∷ ls) ∷ rs)))) r.1
    ∙ ap (λ qs. qs ++ rows_of_all (suc d) (forest (map (item_by (lists n)) rs))) (first_item n d l ls h g ff (alike_front l.prefix ls others aa))
    ∙ ap (λ qs. begun d [] (l ∷ ls) ++ qs)
    (next_items n d rs others (last_prefix l.prefix ls) h r.3 (some_last (suc n) l.prefix ls ff.0.0 ff.1) (begins_after l ls others r.2)
    (bounded_back (suc n) (l ∷ ls) others bb) (alike_back l.prefix ls others aa))
    ∙ sym (begun_append d [] (l ∷ ls) others)
    ∙ ap (begun d []) (sym r.1)

list_begun : (n d : ℕ) (r others : List ListLine) → Shown n → IsRun one_list r others → AreBounded (suc n) r → rows d (list_by (lists n) r) ≡ begun d [] r
list_begun n d [] others h run b = absurd run
list_begun n d (l ∷ ls) others h run b = one_run n d (runs one_item (l ∷ ls)) (l ∷ ls) h (runs_are one_item (l ∷ ls))
    (omega arith) b (chained (l ∷ ls) others run)

-- a list after another one begins as after no line
apart : (d : ℕ) (r others : List ListLine) → IsRun one_list r others → begun d (last_prefix [] r) others ≡ begun d [] others
apart d [] others run = absurd run
apart d (l ∷ ls) [] run = refl
apart d (l ∷ ls) (m ∷ ms) run = begun_apart d (last_prefix l.prefix ls) m ms (list_ends l ls m ms run)

lists_begun : (n d : ℕ) (rs : List (List ListLine)) (all : List ListLine) → Shown n → AreRuns one_list rs all
    → AreBounded (suc n) all → rows_of_all d (forest (map (list_by (lists n)) rs)) ≡ begun d [] all
lists_begun n d [] all h r b = ap (begun d []) (sym r)
lists_begun n d (run ∷ rs) all h r b =
    let others = r.0 in
    let bb = subst (AreBounded (suc n)) r.1 b in
    ap (λ qs. qs ++ rows_of_all d (forest (map (list_by (lists n)) rs))) (list_begun n d run others h r.2 (bounded_front (suc n) run others bb))
    ∙ ap (λ qs. begun d [] run ++ qs) (lists_begun n d rs others h r.3 (bounded_back (suc n) run others bb) ∙ sym (apart d run others r.2))
    ∙ sym (begun_append d [] run others)
    ∙ ap (begun d []) (sym r.1)

none_bounded : (ls : List ListLine) → AreBounded 0 ls → ls ≡ []
none_bounded [] b = refl
none_bounded (l ∷ ls) b = absurd (omega (arith, b.0.0, b.0.1))

pub all_begun : (n : ℕ) → Shown n
all_begun zero d ls b = ap (begun d []) (sym (none_bounded ls b))
all_begun (suc n) d ls b = lists_begun n d (runs one_list ls) ls (all_begun n) (runs_are one_list ls) b

-- ---- prefixes that count

bounded_from : (n : ℕ) (ps : List (List ℕ)) → All IsPrefix ps → AreBounded 32 (numbered n ps)
bounded_from n [] h = tt
bounded_from n (p ∷ ps) h = let first = h 0 [] (omega arith) in ((first.0, first.1), bounded_from (suc n) ps (λ k d l. h (suc k) d (omega arith)))

pub nested_begun : (ps : List (List ℕ)) → All IsPrefix ps → rows_of_all 0 (forest (nested ps)) ≡ begun 0 [] (numbered 0 ps)
unfolding nested
nested_begun ps h = all_begun 32 0 (numbered 0 ps) (bounded_from 0 ps h)
