-- What is read of members behind an open run, and the call that the run makes of them.
use Rattle.std.proofs.Common.{◌≡◌, ℕ, ◌+◌, ◌-◌, ◌<◌, ◌≤◌, Bool, true, false, Some, List, [], ◌∷◌, ◌++◌, length, take, drop, reverse, nat_le, nat_lt, refl, sym, ap, ◌∙◌, subst, inl, inr, arith, append_assoc, append-nil, length-append}
use Rattle.std.specs.Prelude.{◌⊎◌, ◌==◌, ◌&&◌, if◌then◌else◌, slice_get, slice_index}
use Rattle.std.specs.List.{position_or_len}
use Rattle.std.proofs.lemmas.Bool.Decides.{nat_tests}
use Rattle.std.proofs.lemmas.List.{reverse-append}
use Rattle.wt_span.specs.declared.form.LexKind.TheVariants.{Opens}
use Rattle.wt_span.specs.Braces.{Member, Members, lexeme, call, members, listed, width_of_all, PartAt, PartSign, has_two, open_left, left_over, taken, rewritten, sign_of, signs, is_kind_open, is_kind_close, parts_of, parts_between}
use Rattle.wt_braces.specs.declared.matching.OpenRun.{OpenRun}
use Rattle.wt_braces.specs.Views.{ClosedAt}
use Rattle.wt_braces.specs.PartRows.{Fit}
use Rattle.wt_braces.specs.Matched.{closed_of, closed_of_all, Matched, links_before, with_link, link_closed, with_signs, with_level, with_run, with_calls, with_member, end_of, matched, with_left, closed_call, call_closed, CanClose, Stands}
use Rattle.wt_braces.proofs.Shapes.{Shape, plain, closing, opening, shape, NoRun, Behind, nearest, place_none, place_some, get_at, get_none, take_at, drop_past, listed_members}
use Rattle.wt_braces.proofs.Levels.{Level, shut, shut_by, level_with, level, with_close, with_open, with_plain, level_signs}
use Rattle.wt_braces.proofs.Widths.{end_is, end_append, closed_in, closed_members, signs_fit}

-- ---- the last of a list

last_at : (xs : List ℕ) (k : ℕ) → slice_index (xs ++ k ∷ []) (length (xs ++ k ∷ []) - 1) ≡ k
last_at xs k = let e : length (xs ++ k ∷ []) - 1 ≡ length xs = omega (arith, length-append xs (k ∷ [])) in ap (slice_index (xs ++ k ∷ [])) e ∙ at_end xs
  where
    at_end : (ys : List ℕ) → slice_index (ys ++ k ∷ []) (length ys) ≡ k
    at_end [] = refl
    at_end (y ∷ ys) = at_end ys

front_of : {A : Type 0} → (xs ys : List A) → take (length xs) (xs ++ ys) ≡ xs
front_of [] [] = refl
front_of [] (y ∷ ys) = refl
front_of (x ∷ xs) ys = ap (λ zs. x ∷ zs) (front_of xs ys)

back_of : {A : Type 0} → (xs ys : List A) → drop (length xs) (xs ++ ys) ≡ ys
back_of [] [] = refl
back_of [] (y ∷ ys) = refl
back_of (x ∷ xs) ys = back_of xs ys

all_but_last : (xs : List ℕ) (k : ℕ) → take (length (xs ++ k ∷ []) - 1) (xs ++ k ∷ []) ≡ xs
all_but_last xs k = let e : length (xs ++ k ∷ []) - 1 ≡ length xs = omega (arith, length-append xs (k ∷ [])) in
    ap (λ n. take n (xs ++ k ∷ [])) e ∙ front_of xs (k ∷ [])

-- ---- one more member behind a run

-- what is read: a run, and the level behind it
abbrev pub build : Matched → OpenRun → Level → List ClosedAt → Matched
build m r l cs = record { runs = r ∷ m.runs; signs = l.signs; links = m.links ++ reverse l.links; closed = cs }

rev_last : (ls : List ℕ) (k : ℕ) (ks : List ℕ) → ls ++ reverse (k ∷ ks) ≡ (ls ++ reverse ks) ++ k ∷ []
rev_last ls k ks = ap (λ xs. ls ++ xs) (reverse-append (k ∷ []) ks) ∙ sym (append_assoc ls (reverse ks) (k ∷ []))

shut_built : (m : Matched) (r : OpenRun) (l : Level) (cs : List ClosedAt) → r.links ≡ length m.links → link_closed (build m r l cs) ≡ build m r (shut l) cs
shut_built m r l cs e = by_links l.signs l.links
  where
    by_links : (ss : List PartSign) (ks : List ℕ) → link_closed (build m r (record { signs = ss; links = ks }) cs) ≡ build m r (shut_by ss ks) cs
    by_links ss [] =
        let b = build m r (record { signs = ss; links = [] }) cs in
        let no : nat_lt r.links (length (m.links ++ [])) ≡ false = let f = length-append m.links [] in grind (arith, nat_tests) in
        ap (λ t. if t then record {
          runs = b.runs;
          signs = take (slice_index b.links (length b.links - 1)) b.signs;
          links =
              take (length b.links - 1) b.links;
          closed = b.closed;
        } else b) no
    by_links ss (k ∷ ks) =
        let b = build m r (record { signs = ss; links = k ∷ ks }) cs in
        let f = rev_last m.links k ks in
        let long : length (m.links ++ reverse (k ∷ ks)) ≡ length (m.links ++ reverse ks) + 1 = ap length f ∙ length-append (m.links ++ reverse ks) (k ∷ []) in
        let more = length-append m.links (reverse ks) in
        let yes : nat_lt r.links (length (m.links ++ reverse (k ∷ ks))) ≡ true = grind (arith, nat_tests) in
        ap (λ t. if t then record {
          runs = b.runs;
          signs = take (slice_index b.links (length b.links - 1)) b.signs;
          links =
              take (length b.links - 1) b.links;
          closed = b.closed;
        } else b) yes
        ∙ ap (λ xs. record { runs = b.runs; signs = take (slice_index xs (length xs - 1)) ss; links = take (length xs - 1) xs; closed = cs }) f
        ∙ ap (λ n. record {
          runs = b.runs;
          signs = take n ss;
          links = take (length ((m.links ++ reverse ks) ++ k ∷ []) - 1)
              ((m.links ++ reverse ks) ++ k ∷ []);
          closed = cs;
        }) (last_at (m.links ++ reverse ks) k)
        ∙ ap (λ xs. record { runs = b.runs; signs = take k ss; links = xs; closed = cs }) (all_but_last (m.links ++ reverse ks) k)

pub level_close : (at : ℕ) (x : Member) (m : Matched) → is_kind_close x ≡ true → with_level at x m ≡ link_closed m
level_close at x m e = ap (λ t. if t then link_closed m else (if is_kind_open x then with_link m else with_signs (sign_of x at) m)) e

pub level_open : (at : ℕ) (x : Member) (m : Matched) → is_kind_close x ≡ false → is_kind_open x ≡ true → with_level at x m ≡ with_link m
level_open at x m e f =
    ap (λ t. if t then link_closed m else (if is_kind_open x then with_link m else with_signs (sign_of x at) m)) e
    ∙ ap (λ t. if t then with_link m else with_signs (sign_of x at) m) f

pub level_plain : (at : ℕ) (x : Member) (m : Matched) → is_kind_close x ≡ false → is_kind_open x ≡ false → with_level at x m ≡ with_signs (sign_of x at) m
level_plain at x m e f =
    ap (λ t. if t then link_closed m else (if is_kind_open x then with_link m else with_signs (sign_of x at) m)) e
    ∙ ap (λ t. if t then with_link m else with_signs (sign_of x at) m) f

level_step : (m : Matched) (r : OpenRun) (l : Level) (cs : List ClosedAt) (at : ℕ) (x : Member) → r.links ≡ length m.links
    → Shape x → with_level at x (build m r l cs) ≡ build m r (level_with at x l) cs
level_step m r l cs at x e (closing s) = level_close at x (build m r l cs) s.close ∙ shut_built m r l cs e
    ∙ ap (λ k. build m r k cs) (sym (with_close at x l s.close))
level_step m r l cs at x e (opening s) =
    level_open at x (build m r l cs) s.no_close s.open_link
    ∙ ap (λ ls. record { runs = r ∷ m.runs; signs = l.signs; links = ls; closed = cs }) (sym (rev_last m.links (length l.signs) l.links))
    ∙ ap (λ k. build m r k cs) (sym (with_open at x l s.no_close s.open_link))
level_step m r l cs at x e (plain s) = level_plain at x (build m r l cs) s.no_close s.no_open
    ∙ ap (λ k. build m r k cs) (sym (with_plain at x l s.no_close s.no_open))

no_run : (at : ℕ) (x : Member) (m : Matched) → has_two x ≡ false → with_run at (open_left (Some x)) m ≡ m
no_run at x m h =
    ap (λ t. if t then record {
      runs = record {
        at = at;
        left = open_left (Some x);
        signs = length m.signs;
        links =
            length m.links;
        calls = length m.closed;
      } ∷ m.runs;
      signs = m.signs;
      links = m.links;
      closed = m.closed;
    } else m) h

abbrev pub run_at : ℕ → ℕ → Matched → OpenRun
run_at at n m = record { at = at; left = n; signs = length m.signs; links = length m.links; calls = length m.closed }

pub nothing : (m : Matched) → with_calls 0 (lexeme (Opens, 0)) (with_signs [] m) ≡ m
nothing m = ap (λ ss. record { runs = m.runs; signs = ss; links = m.links; closed = m.closed ++ [] }) (append-nil m.signs)
    ∙ ap (λ cs. record { runs = m.runs; signs = m.signs; links = m.links; closed = cs }) (append-nil m.closed)

run_yes : (at n : ℕ) (m : Matched) → 2 ≤ n → with_run at n m ≡ record { runs = run_at at n m ∷ m.runs; signs = m.signs; links = m.links; closed = m.closed }
run_yes at n m two =
    let e : nat_le 2 n ≡ true = grind (arith, nat_tests) in
    ap (λ t. if t then record { runs = run_at at n m ∷ m.runs; signs = m.signs; links = m.links; closed = m.closed } else m) e

-- what is read of members behind a run
abbrev pub behind : ℕ → List Member → ℕ → List Member → Matched
behind at inside n rest =
    let m = matched at rest in
    let from = end_of at rest + n in
    build m (run_at (end_of at rest) n m) (level m.signs from inside) (m.closed ++ closed_in from (length m.closed) inside)

pub read_behind : (at : ℕ) (inside : List Member) (n : ℕ) (rest : List Member) → NoRun inside → 2 ≤ n
    → matched at (inside ++ lexeme (Opens, n) ∷ rest) ≡ behind at inside n rest
read_behind at [] n rest free two =
    let m = matched at rest in
    ap (with_run (end_of at rest) n) (nothing m) ∙ run_yes (end_of at rest) n m two
    ∙ ap (λ ls. record { runs = run_at (end_of at rest) n m ∷ m.runs; signs = m.signs; links = ls; closed = m.closed }) (sym (append-nil m.links))
    ∙ ap (λ cs. record { runs = run_at (end_of at rest) n m ∷ m.runs; signs = m.signs; links = m.links ++ []; closed = cs }) (sym (append-nil m.closed))
read_behind at (x ∷ inside) n rest free two =
    let m = matched at rest in
    let r = run_at (end_of at rest) n m in
    let from = end_of at rest + n in
    let l = level m.signs from inside in
    let cs = m.closed ++ closed_in from (length m.closed) inside in
    let place = end_of from inside in
    let here : end_of at (inside ++ lexeme (Opens, n) ∷ rest) ≡ place = end_append at inside (lexeme (Opens, n) ∷ rest) in
    ap (λ p. with_member p x (matched at (inside ++ lexeme (Opens, n) ∷ rest))) here
    ∙ ap (with_member place x) (read_behind at inside n rest free.1 two)
    ∙ no_run place x (with_calls place x (with_level place x (build m r l cs))) free.0
    ∙ ap (with_calls place x) (level_step m r l cs place x refl (shape x))
    ∙ ap (λ k. build m r (level_with place x l) (cs ++ closed_of place k x)) (length-append m.closed (closed_in from (length m.closed) inside))
    ∙ ap (build m r (level_with place x l)) (append_assoc m.closed (closed_in from (length m.closed) inside)
    (closed_of place (length m.closed + length (closed_in from (length m.closed) inside)) x))

-- ---- one rewriting

abbrev made : ℕ → List Member → ℕ → List Member → List Member → ℕ × List Member
made c before n front back =
    let k = taken n c in
    if nat_le 2 n && nat_le 2 c then (c - k, call k (members (reverse front)) ∷ (left_over Opens (n - k) ++ back)) else (c, before)

rewritten_is : (c : ℕ) (before : List Member)
    → rewritten (c, before) ≡ made c before (open_left (slice_get before (position_or_len has_two before)))
    (take (position_or_len has_two before) before) (drop (position_or_len has_two before + 1) before)
unfolding rewritten
rewritten_is c before = refl

and_both : (a b : Bool) → a ≡ true → b ≡ true → (a && b) ≡ true
and_both true true e f = refl
and_both false b e f = cc
and_both true false e f = cc

and_no : (a b : Bool) → b ≡ false → (a && b) ≡ false
and_no true b e = e
and_no false b e = refl

pub rewritten_at : (c n : ℕ) (inside rest : List Member) → NoRun inside → 2 ≤ n → 2 ≤ c
    → rewritten (c, inside ++ lexeme (Opens, n) ∷ rest)
    ≡ (c - taken n c, call (taken n c) (members (reverse inside)) ∷ (left_over Opens (n - taken n c) ++ rest))
rewritten_at c n inside rest free two more =
    let run = lexeme (Opens, n) in
    let before = inside ++ run ∷ rest in
    let two_left : has_two run ≡ true = grind (arith, nat_tests) in
    let first : nat_le 2 n ≡ true = grind (arith, nat_tests) in
    let second : nat_le 2 c ≡ true = grind (arith, nat_tests) in
    let k = taken n c in
    rewritten_is c before
    ∙ ap (λ p. made c before (open_left (slice_get before p)) (take p before) (drop (p + 1) before)) (place_some inside run rest free two_left)
    ∙ ap (λ o. made c before (open_left o) (take (length inside) before) (drop (length inside + 1) before)) (get_at inside run rest)
    ∙ ap (λ f. made c before n f (drop (length inside + 1) before)) (take_at inside (run ∷ rest))
    ∙ ap (made c before n inside) (drop_past inside run rest)
    ∙ ap (λ t. if t then (c - k, call k (members (reverse inside)) ∷ (left_over Opens (n - k) ++ rest)) else (c, before))
    (and_both (nat_le 2 n) (nat_le 2 c) first second)

pub stuck_free : (c : ℕ) (before : List Member) → NoRun before → rewritten (c, before) ≡ (c, before)
stuck_free c before free =
    let o : open_left (slice_get before (position_or_len has_two before)) ≡ 0 =
    ap (λ p. open_left (slice_get before p)) (place_none before free) ∙ ap open_left (get_none before) in
    rewritten_is c before ∙ ap (λ n. made c before n (take (position_or_len has_two before) before) (drop (position_or_len has_two before + 1) before)) o

pub stuck_few : (c : ℕ) (before : List Member) → c < 2 → rewritten (c, before) ≡ (c, before)
stuck_few c before few =
    let p = position_or_len has_two before in
    let n = open_left (slice_get before p) in
    let k = taken n c in
    let no : nat_le 2 c ≡ false = grind (arith, nat_tests) in
    rewritten_is c before ∙ ap (λ t. if t then (
      c - k,
      call k (members (reverse (take p before))) ∷ (left_over Opens (n - k) ++ drop (p + 1) before),
    ) else (c, before))
    (and_no (nat_le 2 n) (nat_le 2 c) no)

-- ---- its call

pub record Taking (n c k : ℕ) : Type 0 where
  pub two : 2 ≤ k
  pub opening : k ≤ n
  pub closing : k ≤ c

pub taking : (n c : ℕ) → 2 ≤ n → 2 ≤ c → Taking n c (taken n c)
taking n c two more = by_test (nat_le 3 n) (nat_le 3 c) refl refl
  where
    by_test : (s t : Bool) → nat_le 3 n ≡ s → nat_le 3 c ≡ t → Taking n c (if s && t then 3 else 2)
    by_test true true e f = record { two = omega arith; opening = grind (arith, nat_tests); closing = grind (arith, nat_tests) }
    by_test true false e f = record { two = omega arith; opening = two; closing = more }
    by_test false true e f = record { two = omega arith; opening = two; closing = more }
    by_test false false e f = record { two = omega arith; opening = two; closing = more }

-- what is left of a run, and a run with so many braces
left_read : (at j : ℕ) (rest : List Member) → matched at (left_over Opens j ++ rest) ≡ with_run (end_of at rest) j (matched at rest)
left_read at j rest = by_test (j == 0) refl
  where
    by_test : (t : Bool) → (j == 0) ≡ t → matched at ((if t then [] else lexeme (Opens, j) ∷ []) ++ rest) ≡ with_run (end_of at rest) j (matched at rest)
    by_test true e = let z : j ≡ 0 = grind (arith, nat_tests) in ap (λ i. with_run (end_of at rest) i (matched at rest)) (sym z)
    by_test false e = ap (with_run (end_of at rest) j) (nothing (matched at rest))

left_end : (at j : ℕ) (rest : List Member) → end_of at (left_over Opens j ++ rest) ≡ end_of at rest + j
left_end at j rest = by_test (j == 0) refl
  where
    by_test : (t : Bool) → (j == 0) ≡ t → end_of at ((if t then [] else lexeme (Opens, j) ∷ []) ++ rest) ≡ end_of at rest + j
    by_test true e = let z : j ≡ 0 = grind (arith, nat_tests) in omega (arith, z)
    by_test false e = refl

-- what is read before a run with so many braces left, with these calls
abbrev open_by : Bool → ℕ → ℕ → Matched → List ClosedAt → Matched
open_by t at j m cs = if t then record { runs = run_at at j m ∷ m.runs; signs = m.signs; links = m.links; closed = cs } else
    record { runs = m.runs; signs = m.signs; links = m.links; closed = cs }

calls_by : (t : Bool) (at j p : ℕ) (x : Member) (m : Matched) → with_calls p x (with_signs [] (open_by t at j m m.closed))
    ≡ open_by t at j m (m.closed ++ closed_of p (length m.closed) x)
calls_by true at j p x m = ap (λ ss. record {
  runs = run_at at j m ∷ m.runs;
  signs = ss;
  links = m.links;
  closed =
      m.closed ++ closed_of p (length m.closed) x;
}) (append-nil m.signs)
calls_by false at j p x m = ap (λ ss. record {
  runs = m.runs;
  signs = ss;
  links = m.links;
  closed =
      m.closed ++ closed_of p (length m.closed) x;
}) (append-nil m.signs)

call_read : (at j k : ℕ) (ms : Members) (rest : List Member)
    → matched at (call k ms ∷ (left_over Opens j ++ rest)) ≡ open_by (nat_le 2 j) (end_of at rest) j (matched at rest)
    ((matched at rest).closed ++ closed_of (end_of at rest + j) (length (matched at rest).closed) (call k ms))
call_read at j k ms rest =
    let m = matched at rest in
    ap (λ x. with_member (end_of at (left_over Opens j ++ rest)) (call k ms) x) (left_read at j rest)
    ∙ ap (λ p. with_member p (call k ms) (with_run (end_of at rest) j m)) (left_end at j rest)
    ∙ calls_by (nat_le 2 j) (end_of at rest) j (end_of at rest + j) (call k ms) m

parts_are : (from : ℕ) (ms : Members) → parts_of from ms ≡ parts_between false from (from + width_of_all ms) (signs from [] (listed ms))
unfolding parts_of
parts_are from ms = refl

-- the members behind a run, without the run
abbrev pub taken_out : ℕ → List Member → ℕ → List Member → Matched
taken_out at inside n rest = let b = behind at inside n rest in record { runs = (matched at rest).runs; signs = b.signs; links = b.links; closed = b.closed }

signs_behind : (at n : ℕ) (inside rest : List Member) → (behind at inside n rest).signs ≡ (matched at rest).signs
    ++ signs (end_of at rest + n) [] (reverse inside)
signs_behind at n inside rest = level_signs (matched at rest).signs (end_of at rest + n) inside

drop_behind : (at n : ℕ) (inside rest : List Member) → drop (length (matched at rest).signs) (behind at inside n rest).signs
    ≡ signs (end_of at rest + n) [] (reverse inside)
drop_behind at n inside rest = ap (drop (length (matched at rest).signs)) (signs_behind at n inside rest)
    ∙ back_of (matched at rest).signs (signs (end_of at rest + n) [] (reverse inside))

place_is : (at n : ℕ) (inside rest : List Member) → end_of at (inside ++ lexeme (Opens, n) ∷ rest) ≡ end_of at rest + n
    + width_of_all (members (reverse inside))
place_is at n inside rest = end_append at inside (lexeme (Opens, n) ∷ rest) ∙ end_is (end_of at rest + n) inside

abbrev closed_as : ℕ → ℕ → ℕ → List PartAt → ℕ → ClosedAt
closed_as k from to parts first = record { argument = k == 3; from = from; to = to; parts = parts; first = first }

call_is : (at n k : ℕ) (inside rest : List Member) → k ≤ n
    → closed_call (run_at (end_of at rest) n (matched at rest)) k (end_of at (inside ++ lexeme (Opens, n) ∷ rest) + k) (taken_out at inside n rest)
    ≡ closed_as k (end_of at rest + (n - k)) (end_of at rest + (n - k) + (k + width_of_all (members (reverse inside)) + k))
    (parts_of (end_of at rest + (n - k) + k) (members (reverse inside))) (length (matched at rest).closed)
call_is at n k inside rest le =
    let e = end_of at rest in
    let ms = members (reverse inside) in
    let first = length (matched at rest).closed in
    let place = end_of at (inside ++ lexeme (Opens, n) ∷ rest) in
    let place_e : place ≡ e + n + width_of_all ms = place_is at n inside rest in
    let from_e : e + n - k ≡ e + (n - k) = omega arith in
    let to_e : place + k ≡ e + (n - k) + (k + width_of_all ms + k) = omega (arith, place_e) in
    let end_e : place + k - k ≡ e + n + width_of_all ms = omega (arith, place_e) in
    let in_e : e + n ≡ e + (n - k) + k = omega arith in
    ap (λ ss. closed_as k (e + n - k) (place + k) (parts_between false (e + n) (place + k - k) ss) first)
    (drop_behind at n inside rest ∙ ap (signs (e + n) []) (sym (listed_members (reverse inside))))
    ∙ ap (λ i. closed_as k (e + n - k) (place + k) (parts_between false (e + n) i (signs (e + n) [] (listed ms))) first) end_e
    ∙ ap (λ ps. closed_as k (e + n - k) (place + k) ps first) (sym (parts_are (e + n) ms) ∙ ap (λ i. parts_of i ms) in_e)
    ∙ ap (λ i. closed_as k i (place + k) (parts_of (e + (n - k) + k) ms) first) from_e
    ∙ ap (λ i. closed_as k (e + (n - k)) i (parts_of (e + (n - k) + k) ms) first) to_e

all_closed : (at n k : ℕ) (inside rest : List Member) → k ≤ n
    → (behind at inside n rest).closed ++ closed_call (run_at (end_of at rest) n (matched at rest)) k
    (end_of at (inside ++ lexeme (Opens, n) ∷ rest) + k) (taken_out at inside n rest) ∷ []
    ≡ (matched at rest).closed ++ closed_of (end_of at rest + (n - k)) (length (matched at rest).closed) (call k (members (reverse inside)))
all_closed at n k inside rest le =
    let e = end_of at rest in
    let m = matched at rest in
    let first = length m.closed in
    let ms = members (reverse inside) in
    let inner = closed_in (e + n) first inside in
    let c = closed_call (run_at e n m) k (end_of at (inside ++ lexeme (Opens, n) ∷ rest) + k) (taken_out at inside n rest) in
    let in_e : e + n ≡ e + (n - k) + k = omega arith in
    append_assoc m.closed inner (c ∷ [])
    ∙ ap (λ x. m.closed ++ (inner ++ x ∷ [])) (call_is at n k inside rest le)
    ∙ ap (λ cs. m.closed ++ (cs ++ closed_as k (e + (n - k)) (e + (n - k) + (k + width_of_all ms + k))
    (parts_of (e + (n - k) + k) ms) first ∷ [])) (closed_members (e + n) first inside ∙ ap (λ i. closed_of_all i first ms) in_e)

-- a run makes a call of the members behind it
call_made : (at n k : ℕ) (inside rest : List Member) → k ≤ n
    → call_closed (run_at (end_of at rest) n (matched at rest)) k (end_of at (inside ++ lexeme (Opens, n) ∷ rest) + k)
    (taken_out at inside n rest) ≡ matched at (call k (members (reverse inside)) ∷ (left_over Opens (n - k) ++ rest))
call_made at n k inside rest le =
    let e = end_of at rest in
    let m = matched at rest in
    let b = behind at inside n rest in
    let r = run_at e n m in
    let c = closed_call r k (end_of at (inside ++ lexeme (Opens, n) ∷ rest) + k) (taken_out at inside n rest) in
    let signs_e : take (length m.signs) b.signs ≡ m.signs = ap (take (length m.signs)) (signs_behind at n inside rest)
    ∙ front_of m.signs (signs (e + n) [] (reverse inside)) in
    let links_e : take (length m.links) b.links ≡ m.links = front_of m.links (reverse (level m.signs (e + n) inside).links) in
    ap (λ ss. with_left r (n - k) (record { runs = m.runs; signs = ss; links = take (length m.links) b.links; closed = b.closed ++ c ∷ [] })) signs_e
    ∙ ap (λ ls. with_left r (n - k) (record { runs = m.runs; signs = m.signs; links = ls; closed = b.closed ++ c ∷ [] })) links_e
    ∙ ap (open_by (nat_le 2 (n - k)) e (n - k) m) (all_closed at n k inside rest le)
    ∙ sym (call_read at (n - k) k (members (reverse inside)) rest)

pub call_end : (at n k : ℕ) (inside rest : List Member) → k ≤ n → end_of at (inside ++ lexeme (Opens, n) ∷ rest) + k
    ≡ end_of at (call k (members (reverse inside)) ∷ (left_over Opens (n - k) ++ rest))
call_end at n k inside rest le = omega (arith, place_is at n inside rest, left_end at (n - k) rest)

can_close : (at n k : ℕ) (inside rest : List Member) → k ≤ n → CanClose (run_at (end_of at rest) n (matched at rest)) k
    (end_of at (inside ++ lexeme (Opens, n) ∷ rest) + k) (taken_out at inside n rest)
can_close at n k inside rest le =
    let e = end_of at rest in
    let m = matched at rest in
    let place = end_of at (inside ++ lexeme (Opens, n) ∷ rest) in
    let here : e + n + width_of_all (members (reverse inside)) ≡ place + k - k = omega (arith, place_is at n inside rest) in
    let P : List PartSign → Type 0 = λ ss. Fit (e + n) (place + k - k) ss in
    record {
      most = le;
      ends = omega arith;
      behind = omega (arith, ap length (signs_behind at n inside rest), length-append m.signs (signs (e + n) [] (reverse inside)));
      fit = subst P (sym (drop_behind at n inside rest)) (signs_fit (e + n) (place + k - k) [] (reverse inside) here);
    }

-- ---- what a taking does

pub record Taken (at : ℕ) (before : List Member) (m : Matched) (r : OpenRun) (place c : ℕ) : Type 0 where
  pub sizes : Taking r.left c (taken r.left c)
  pub can : CanClose r (taken r.left c) (place + taken r.left c) m
  pub count : (rewritten (c, before)).0 ≡ c - taken r.left c
  pub stands : Stands at (rewritten (c, before)).1 (call_closed r (taken r.left c) (place + taken r.left c) m) (place + taken r.left c)

taken_here : (at n c : ℕ) (inside rest : List Member) → NoRun inside → 2 ≤ n → 2 ≤ c
    → Taken at (inside ++ lexeme (Opens, n) ∷ rest) (taken_out at inside n rest) (run_at (end_of at rest) n (matched at rest))
    (end_of at (inside ++ lexeme (Opens, n) ∷ rest)) c
taken_here at n c inside rest free two more =
    let k = taken n c in
    let sizes = taking n c two more in
    let is = rewritten_at c n inside rest free two more in
    let P : List Member → Type 0 = λ b. Stands at b
    (call_closed (run_at (end_of at rest) n (matched at rest)) k (end_of at (inside ++ lexeme (Opens, n) ∷ rest) + k)
    (taken_out at inside n rest)) (end_of at (inside ++ lexeme (Opens, n) ∷ rest) + k) in
    let e : (rewritten (c, inside ++ lexeme (Opens, n) ∷ rest)).1 ≡ call k (members (reverse inside)) ∷ (left_over Opens (n - k) ++ rest) = ap (λ x. x.1) is in
    record {
      sizes = sizes;
      can = can_close at n k inside rest sizes.opening;
      count = ap (λ x. x.0) is;
      stands = subst P (sym e) (record { read = call_made at n k inside rest sizes.opening; ends = call_end at n k inside rest sizes.opening });
    }

if_runs : (t : Bool) (m : Matched) (ss : List PartSign) (ls : List ℕ)
    → (if t then record { runs = m.runs; signs = ss; links = ls; closed = m.closed } else m).runs ≡ m.runs
if_runs true m ss ls = refl
if_runs false m ss ls = refl

level_runs : (at : ℕ) (x : Member) (m : Matched) → Shape x → (with_level at x m).runs ≡ m.runs
level_runs at x m (closing s) = ap (λ y. y.runs) (level_close at x m s.close) ∙ if_runs (nat_lt (links_before m.runs) (length m.links)) m _ _
level_runs at x m (opening s) = ap (λ y. y.runs) (level_open at x m s.no_close s.open_link)
level_runs at x m (plain s) = ap (λ y. y.runs) (level_plain at x m s.no_close s.no_open)

pub runs_free : (at : ℕ) (before : List Member) → NoRun before → (matched at before).runs ≡ []
runs_free at [] free = refl
runs_free at (x ∷ before) free =
    let m = matched at before in
    let p = end_of at before in
    ap (λ y. y.runs) (no_run p x (with_calls p x (with_level p x m)) free.0) ∙ level_runs p x m (shape x) ∙ runs_free at before free.1

pub takes : (at : ℕ) (before : List Member) (m : Matched) (place c : ℕ) (r : OpenRun) (rs : List OpenRun) → Stands at before m place → m.runs ≡ r ∷ rs → 2 ≤ c
    → Taken at before (record { runs = rs; signs = m.signs; links = m.links; closed = m.closed }) r place c
takes at before m place c r rs s e more = by_nearest (nearest before)
  where
    by_nearest : NoRun before ⊎ Behind before → Taken at before (record { runs = rs; signs = m.signs; links = m.links; closed = m.closed }) r place c
    by_nearest (inl free) = absurd (let z : [] ≡ r ∷ rs = sym (runs_free at before free) ∙ sym (ap (λ y. y.runs) s.read) ∙ e in cc)
    by_nearest (inr b) =
        let there = b.inside ++ lexeme (Opens, b.braces) ∷ b.rest in
        let read : m ≡ behind at b.inside b.braces b.rest = s.read ∙ ap (matched at) b.is ∙ read_behind at b.inside b.braces b.rest b.free b.two in
        let runs : run_at (end_of at b.rest) b.braces (matched at b.rest) ∷ (matched at b.rest).runs ≡ r ∷ rs = sym (ap (λ y. y.runs) read) ∙ e in
        let run_e : run_at (end_of at b.rest) b.braces (matched at b.rest) ≡ r = cc in
        let rest_e : (matched at b.rest).runs ≡ rs = cc in
        let place_e : end_of at there ≡ place = ap (end_of at) (sym b.is) ∙ sym s.ends in
        let h = taken_here at b.braces c b.inside b.rest b.free b.two more in
        let A : List OpenRun → Type 0 = λ xs. Taken at there
        (record {
          runs = xs;
          signs = (behind at b.inside b.braces b.rest).signs;
          links =
              (behind at b.inside b.braces b.rest).links;
          closed = (behind at b.inside b.braces b.rest).closed;
        })
        (run_at (end_of at b.rest) b.braces (matched at b.rest)) (end_of at there) c in
        let B : Matched → Type 0 = λ y. Taken at there (record { runs = rs; signs = y.signs; links = y.links; closed = y.closed })
        (run_at (end_of at b.rest) b.braces (matched at b.rest)) (end_of at there) c in
        let C : OpenRun → Type 0 = λ x. Taken at there (record { runs = rs; signs = m.signs; links = m.links; closed = m.closed }) x (end_of at there) c in
        let D : ℕ → Type 0 = λ p. Taken at there (record { runs = rs; signs = m.signs; links = m.links; closed = m.closed }) r p c in
        let E : List Member → Type 0 = λ bs. Taken at bs (record { runs = rs; signs = m.signs; links = m.links; closed = m.closed }) r place c in
        subst E (sym b.is) (subst D place_e (subst C run_e (subst B (sym read) (subst A rest_e h))))
