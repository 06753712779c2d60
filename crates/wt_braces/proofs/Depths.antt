-- How many calls contain one, by their places, is how deep it lies in the reduced text.
use Rattle.std.proofs.Common.{◌≡◌, ℕ, suc, ◌+◌, ◌<◌, ◌≤◌, Bool, true, false, Option, Some, None, List, [], ◌∷◌, ◌++◌, length, map, nat_le, nat_lt, refl, ap, ◌∙◌, arith}
use Rattle.std.specs.Prelude.{◌==◌, ◌&&◌, if◌then◌else◌}
use Rattle.std.specs.Option.{option_or}
use Rattle.std.specs.List.{count_by}
use Rattle.std.proofs.lemmas.Bool.Decides.{nat_tests}
use Rattle.std.proofs.lemmas.List.{map-append}
use Rattle.std.proofs.lemmas.List.Sums.{sum_by-append, sum_by-cons}
use Rattle.wt_span.specs.Braces.{Member, Members, lexeme, call, none, more, width, width_of_all, CallAt, calls_of, calls_of_all, call_count, parts_of, lies_in, nesting}
use Rattle.wt_braces.specs.Deep.{deep_of, deep_of_all}
use Rattle.wt_braces.specs.Found.{deep_among, too_deep}
use Rattle.wt_braces.specs.Depth.{depths_of, depths_of_all}
use Rattle.wt_braces.proofs.Sizes.{IsWide, AreWide}

-- ---- counts

count_append : (p : CallAt → Bool) (xs ys : List CallAt) → count_by p (xs ++ ys) ≡ count_by p xs + count_by p ys
count_append p xs ys = sum_by-append (λ y. if p y then 1 else 0) xs ys

count_no : (p : CallAt → Bool) (x : CallAt) (xs : List CallAt) → p x ≡ false → count_by p (x ∷ xs) ≡ count_by p xs
count_no p x xs e = sum_by-cons (λ y. if p y then 1 else 0) x xs ∙ ap (λ t. (if t then 1 else 0) + count_by p xs) e ∙ omega arith

count_yes : (p : CallAt → Bool) (x : CallAt) (xs : List CallAt) → p x ≡ true → count_by p (x ∷ xs) ≡ 1 + count_by p xs
count_yes p x xs e = sum_by-cons (λ y. if p y then 1 else 0) x xs ∙ ap (λ t. (if t then 1 else 0) + count_by p xs) e

abbrev root_at : ℕ → Option ℕ → ℕ → Members → CallAt
root_at at p k ms = record { argument = k == 3; from = at; to = at + (k + width_of_all ms + k); parts = parts_of (at + k) ms; parent = p }

and_first : (a b : Bool) → a ≡ false → (a && b) ≡ false
and_first true b e = cc
and_first false b e = refl

and_second : (a b : Bool) → b ≡ false → (a && b) ≡ false
and_second true b e = e
and_second false b e = refl

and_true : (a b : Bool) → a ≡ true → b ≡ true → (a && b) ≡ true
and_true true true e f = refl
and_true true false e f = cc
and_true false b e f = cc

not_lt : (a b : ℕ) → b ≤ a → nat_lt a b ≡ false
not_lt a b le = grind (arith, nat_tests)

is_lt : (a b : ℕ) → a < b → nat_lt a b ≡ true
is_lt a b lt = grind (arith, nat_tests)

-- calls that begin no earlier than it don't contain it
mutual
  none_left : (c : CallAt) (at n : ℕ) (p : Option ℕ) (m : Member) → c.from ≤ at → count_by (lies_in c) (calls_of at p n m) ≡ 0
  none_left c at n p (lexeme w) le = refl
  none_left c at n p (call k ms) le =
      count_no (lies_in c) (root_at at p k ms) (calls_of_all (at + k) (Some n) (n + 1) ms)
      (and_first (nat_lt at c.from) (nat_lt c.to (at + (k + width_of_all ms + k))) (not_lt at c.from le))
      ∙ none_left_all c (at + k) (n + 1) (Some n) ms (omega (arith, le))

  none_left_all : (c : CallAt) (at n : ℕ) (p : Option ℕ) (ms : Members) → c.from ≤ at → count_by (lies_in c) (calls_of_all at p n ms) ≡ 0
  none_left_all c at n p none le = refl
  none_left_all c at n p (more m ms) le =
      count_append (lies_in c) (calls_of at p n m) (calls_of_all (at + width m) p (n + call_count m) ms)
      ∙ omega (arith, none_left c at n p m le, none_left_all c (at + width m) (n + call_count m) p ms (omega (arith, le)))

-- nor do calls that end no later
mutual
  none_right : (c : CallAt) (at n : ℕ) (p : Option ℕ) (m : Member) → at + width m ≤ c.to → count_by (lies_in c) (calls_of at p n m) ≡ 0
  none_right c at n p (lexeme w) le = refl
  none_right c at n p (call k ms) le =
      count_no (lies_in c) (root_at at p k ms) (calls_of_all (at + k) (Some n) (n + 1) ms)
      (and_second (nat_lt at c.from) (nat_lt c.to (at + (k + width_of_all ms + k))) (not_lt c.to (at + (k + width_of_all ms + k)) le))
      ∙ none_right_all c (at + k) (n + 1) (Some n) ms (omega (arith, le))

  none_right_all : (c : CallAt) (at n : ℕ) (p : Option ℕ) (ms : Members) → at + width_of_all ms ≤ c.to → count_by (lies_in c) (calls_of_all at p n ms) ≡ 0
  none_right_all c at n p none le = refl
  none_right_all c at n p (more m ms) le =
      count_append (lies_in c) (calls_of at p n m) (calls_of_all (at + width m) p (n + call_count m) ms)
      ∙ omega (arith, none_right c at n p m (omega (arith, le)), none_right_all c (at + width m) (n + call_count m) p ms (omega (arith, le)))

-- ---- depths

-- a count of what contains a call between two places: so many, and those among these calls
abbrev Counts : (CallAt → ℕ) → ℕ → ℕ → ℕ → List CallAt → Type 0
Counts count from to depth cs = (c : CallAt) → from ≤ c.from → c.from < c.to → c.to ≤ to → count c ≡ depth + count_by (lies_in c) cs

mutual
  depth_one : (count : CallAt → ℕ) (at n depth : ℕ) (p : Option ℕ) (m : Member) → IsWide m
      → Counts count at (at + width m) depth (calls_of at p n m) → map count (calls_of at p n m) ≡ depths_of depth m
  depth_one count at n depth p (lexeme w) wide h = refl
  depth_one count at n depth p (call k ms) wide h =
      let root = root_at at p k ms in
      let inner = calls_of_all (at + k) (Some n) (n + 1) ms in
      let here : count root ≡ depth =
      h root (omega arith) (omega (arith, wide.0)) (omega arith)
      ∙ ap (λ i. depth + i) (count_no (lies_in root) root inner
      (and_first (nat_lt at at) (nat_lt root.to root.to) (not_lt at at (omega arith)))
      ∙ none_left_all root (at + k) (n + 1) (Some n) ms (omega arith)) ∙ omega arith in
      let below : Counts count (at + k) (at + k + width_of_all ms) (depth + 1) inner = λ c from some to.
      h c (omega (arith, from)) some (omega (arith, to))
      ∙ ap (λ i. depth + i) (count_yes (lies_in c) root inner
      (and_true (nat_lt at c.from) (nat_lt c.to root.to) (is_lt at c.from (omega (arith, from, wide.0)))
      (is_lt c.to root.to (omega (arith, to, wide.0))))) ∙ omega arith in
      ap (λ d. d ∷ map count inner) here ∙ ap (λ ds. depth ∷ ds) (depth_all count (at + k) (n + 1) (depth + 1) (Some n) ms wide.1 below)

  depth_all : (count : CallAt → ℕ) (at n depth : ℕ) (p : Option ℕ) (ms : Members) → AreWide ms
      → Counts count at (at + width_of_all ms) depth (calls_of_all at p n ms) → map count (calls_of_all at p n ms) ≡ depths_of_all depth ms
  depth_all count at n depth p none wide h = refl
  depth_all count at n depth p (more m ms) wide h =
      let first = calls_of at p n m in
      let others = calls_of_all (at + width m) p (n + call_count m) ms in
      let one : Counts count at (at + width m) depth first = λ c from some to.
      h c from some (omega (arith, to)) ∙ ap (λ i. depth + i) (count_append (lies_in c) first others)
      ∙ omega (arith, none_left_all c (at + width m) (n + call_count m) p ms (omega (arith, some, to))) in
      let two : Counts count (at + width m) (at + width m + width_of_all ms) depth others = λ c from some to.
      h c (omega (arith, from)) some (omega (arith, to)) ∙ ap (λ i. depth + i) (count_append (lies_in c) first others)
      ∙ omega (arith, none_right c at n p m (omega (arith, from, some))) in
      map-append count first others ∙ ap (λ ds. ds ++ map count others) (depth_one count at n depth p m wide.0 one)
      ∙ ap (λ ds. depths_of depth m ++ ds) (depth_all count (at + width m) (n + call_count m) depth p ms wide.1 two)

nesting_is : (cs : List CallAt) (c : CallAt) → nesting cs c ≡ count_by (lies_in c) cs
unfolding nesting
nesting_is cs c = refl

-- nesting by places is depth
pub nesting_depth : (at : ℕ) (ms : Members) → AreWide ms → map (nesting (calls_of_all at None 0 ms)) (calls_of_all at None 0 ms) ≡ depths_of_all 0 ms
nesting_depth at ms wide =
    let cs = calls_of_all at None 0 ms in depth_all (nesting cs) at 0 0 None ms wide (λ c from some to. nesting_is cs c ∙ omega arith)

-- ---- the leftmost one that lies too deep

abbrev first_deep : List CallAt → List ℕ → Option ℕ
first_deep [] ds = None
first_deep (c ∷ cs) [] = None
first_deep (c ∷ cs) (d ∷ ds) = if nat_le 100 d then Some c.from else first_deep cs ds

among_is : (all cs : List CallAt) → deep_among all cs ≡ first_deep cs (map (nesting all) cs)
among_is all [] = refl
among_is all (c ∷ cs) = ap (λ o. if nat_le 100 (nesting all c) then Some c.from else o) (among_is all cs)

first_append : (cs ds : List CallAt) (ns ks : List ℕ) → length cs ≡ length ns → first_deep (cs ++ ds) (ns ++ ks)
    ≡ option_or (first_deep cs ns) (first_deep ds ks)
first_append [] ds [] ks e = refl
first_append [] ds (n ∷ ns) ks e = absurd (omega (arith, e))
first_append (c ∷ cs) ds [] ks e = absurd (omega (arith, e))
first_append (c ∷ cs) ds (n ∷ ns) ks e = by_test (nat_le 100 n) (first_append cs ds ns ks (omega (arith, e)))
  where
    by_test : (t : Bool) → first_deep (cs ++ ds) (ns ++ ks) ≡ option_or (first_deep cs ns) (first_deep ds ks)
        → (if t then Some c.from else first_deep (cs ++ ds) (ns ++ ks)) ≡ option_or (if t then Some c.from else first_deep cs ns) (first_deep ds ks)
    by_test true h = refl
    by_test false h = h

lengths : (xs ys : List CallAt) (ns ks : List ℕ) → length xs ≡ length ns → length ys ≡ length ks → length (xs ++ ys) ≡ length (ns ++ ks)
lengths [] ys [] ks e f = f
lengths [] ys (n ∷ ns) ks e f = absurd (omega (arith, e))
lengths (x ∷ xs) ys [] ks e f = absurd (omega (arith, e))
lengths (x ∷ xs) ys (n ∷ ns) ks e f = ap suc (lengths xs ys ns ks (omega (arith, e)) f)

mutual
  same_length : (at n depth : ℕ) (p : Option ℕ) (m : Member) → length (calls_of at p n m) ≡ length (depths_of depth m)
  same_length at n depth p (lexeme w) = refl
  same_length at n depth p (call k ms) = ap suc (same_length_all (at + k) (n + 1) (depth + 1) (Some n) ms)

  same_length_all : (at n depth : ℕ) (p : Option ℕ) (ms : Members) → length (calls_of_all at p n ms) ≡ length (depths_of_all depth ms)
  same_length_all at n depth p none = refl
  same_length_all at n depth p (more m ms) =
      lengths (calls_of at p n m) (calls_of_all (at + width m) p (n + call_count m) ms) (depths_of depth m)
      (depths_of_all depth ms) (same_length at n depth p m) (same_length_all (at + width m) (n + call_count m) depth p ms)

mutual
  deep_one : (at n depth : ℕ) (p : Option ℕ) (m : Member) → first_deep (calls_of at p n m) (depths_of depth m) ≡ deep_of at depth m
  deep_one at n depth p (lexeme w) = refl
  deep_one at n depth p (call k ms) = ap (λ o. if nat_le 100 depth then Some at else o) (deep_all (at + k) (n + 1) (depth + 1) (Some n) ms)

  deep_all : (at n depth : ℕ) (p : Option ℕ) (ms : Members) → first_deep (calls_of_all at p n ms) (depths_of_all depth ms) ≡ deep_of_all at depth ms
  deep_all at n depth p none = refl
  deep_all at n depth p (more m ms) =
      first_append (calls_of at p n m) (calls_of_all (at + width m) p (n + call_count m) ms) (depths_of depth m)
      (depths_of_all depth ms) (same_length at n depth p m)
      ∙ ap (λ o. option_or o (first_deep (calls_of_all (at + width m) p (n + call_count m) ms) (depths_of_all depth ms))) (deep_one at n depth p m)
      ∙ ap (option_or (deep_of at depth m)) (deep_all (at + width m) (n + call_count m) depth p ms)

pub too_deep_is : (at : ℕ) (ms : Members) → AreWide ms → too_deep (calls_of_all at None 0 ms) ≡ deep_of_all at 0 ms
unfolding too_deep
too_deep_is at ms wide =
    let cs = calls_of_all at None 0 ms in among_is cs cs ∙ ap (first_deep cs) (nesting_depth at ms wide) ∙ deep_all at 0 0 None ms
