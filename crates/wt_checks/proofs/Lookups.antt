-- In a page whose numbers count from 1 in preorder each node with a number stands at it, behind the body.
use Rattle.std.proofs.Common.{◌≡◌, ◌≢◌, ◌<◌, ◌+◌, ℕ, zero, suc, Bool, true, false, List, [], ◌∷◌, ◌++◌, length, map, refl, sym, ap, ◌∙◌, subst, arith}
use Rattle.std.specs.Prelude.{◌==◌, ◌||◌, not, if◌then◌else◌, filter, Some, slice_get}
use Rattle.std.specs.List.{range_with_len}
use Rattle.std.proofs.lemmas.List.{map-append}
use Rattle.std.proofs.lemmas.List.Elements.{recursion_from_All}
use Rattle.std.specs.List.{AllByRecursion}
use Rattle.std.proofs.lemmas.Bool.Decides.{nat_tests}
use Rattle.std.proofs.lemmas.Option.{slice_get-map}
use Rattle.wt_tree.specs.declared.kind.Kind.TheVariants as kind
use Rattle.wt_tree.specs.Kinds.{is_numbered}
use Rattle.wt_tree.specs.Tiling.{is_group, numbers, numbers_of_all, ids, ids_of_all, others, others_of_all, InPreorder}
use Rattle.wt_tree.specs.Tree.{Tree, tree, Trees, none, more, label}
use Rattle.wt_checks.specs.declared.visit.Visit.{Visit}
use Rattle.wt_checks.specs.Places.{Place, placed, all_placed, places, number, is_kept, numbered, page_of, parent_below, is_content}
use Rattle.wt_checks.specs.View.{seen, all_seen, indexed, has_number, index_list}
use Rattle.wt_checks.proofs.Firsts.{number_seen}

-- ---- lists of numbers

-- the numbers that aren't 0
abbrev kept_ids : List ℕ → List ℕ
kept_ids ns = filter (λ n. not (n == 0)) ns

abbrev pub AllZero : List ℕ → Type 0
AllZero ns = AllByRecursion (λ n. n ≡ 0) ns

abbrev pub NoZero : List ℕ → Type 0
NoZero ns = AllByRecursion (λ n. n ≢ 0) ns

pub each_split : {X : Type 0} (P : X → Type 0) (xs ys : List X) → AllByRecursion P (xs ++ ys) → AllByRecursion P xs × AllByRecursion P ys
each_split P [] ys h = (tt, h)
each_split P (x ∷ xs) ys h = let r = each_split P xs ys h.1 in ((h.0, r.0), r.1)

pub each_join : {X : Type 0} (P : X → Type 0) (xs ys : List X) → AllByRecursion P xs → AllByRecursion P ys → AllByRecursion P (xs ++ ys)
each_join P [] ys h k = k
each_join P (x ∷ xs) ys h k = (h.0, each_join P xs ys h.1 k)

is_zero : (n : ℕ) → n ≡ 0 → (n == 0) ≡ true
is_zero n e = grind (arith, nat_tests)

is_no_zero : (n : ℕ) → n ≢ 0 → (n == 0) ≡ false
is_no_zero n e = grind (arith, nat_tests)

kept_zero : (n : ℕ) (ns : List ℕ) → n ≡ 0 → kept_ids (n ∷ ns) ≡ kept_ids ns
kept_zero n ns e = let t : (n == 0) ≡ true = is_zero n e in rw t

kept_other : (n : ℕ) (ns : List ℕ) → n ≢ 0 → kept_ids (n ∷ ns) ≡ n ∷ kept_ids ns
kept_other n ns e = let t : (n == 0) ≡ false = is_no_zero n e in rw t

kept_none : (ns : List ℕ) → AllZero ns → kept_ids ns ≡ []
kept_none [] h = refl
kept_none (n ∷ ns) h = kept_zero n ns h.0 ∙ kept_none ns h.1

join_by : (b : Bool) (m : ℕ) (ms all ns : List ℕ) → all ≡ ms ++ ns → (if b then m ∷ all else all) ≡ (if b then m ∷ ms else ms) ++ ns
join_by true m ms all ns e = ap (λ ks. m ∷ ks) e
join_by false m ms all ns e = e

kept_join : (ms ns : List ℕ) → kept_ids (ms ++ ns) ≡ kept_ids ms ++ kept_ids ns
kept_join [] ns = refl
kept_join (m ∷ ms) ns = join_by (not (m == 0)) m (kept_ids ms) (kept_ids (ms ++ ns)) (kept_ids ns) (kept_join ms ns)

range_no_zero : (k a : ℕ) → 0 < a → NoZero (range_with_len a k)
range_no_zero zero a h = tt
range_no_zero (suc k) a h = ((λ e. omega (arith, e, h)), range_no_zero k (a + 1) (omega (arith, h)))

-- ---- all numbers of a tree that aren't 0 are those of its numbered nodes

ids_by : (n g : Bool) (id : ℕ) (all nums oths : List ℕ) → AllZero ((if n then [] else id ∷ []) ++ (if g then all else oths))
    → NoZero ((if n then id ∷ [] else []) ++ (if g then [] else nums)) → (AllZero oths → NoZero nums → kept_ids all ≡ nums)
    → kept_ids (id ∷ all) ≡ (if n then id ∷ [] else []) ++ (if g then [] else nums)
ids_by true true id all nums oths z o h = kept_other id all o.0 ∙ ap (λ ks. id ∷ ks) (kept_none all z)
ids_by true false id all nums oths z o h = kept_other id all o.0 ∙ ap (λ ks. id ∷ ks) (h z o.1)
ids_by false true id all nums oths z o h = kept_zero id all z.0 ∙ kept_none all z.1
ids_by false false id all nums oths z o h = kept_zero id all z.0 ∙ h z.1 o

mutual
  ids_are : (t : Tree) → AllZero (others t) → NoZero (numbers t) → kept_ids (ids t) ≡ numbers t
  ids_are (tree l ts) z o = ids_by (is_numbered l.kind) (is_group l.kind) l.id (ids_of_all ts) (numbers_of_all ts)
      (others_of_all ts) z o (λ y p. all_ids_are ts y p)

  all_ids_are : (ts : Trees) → AllZero (others_of_all ts) → NoZero (numbers_of_all ts) → kept_ids (ids_of_all ts) ≡ numbers_of_all ts
  all_ids_are none z o = refl
  all_ids_are (more t ts) z o =
      let y = each_split (λ n. n ≡ 0) (others t) (others_of_all ts) z in
      let p = each_split (λ n. n ≢ 0) (numbers t) (numbers_of_all ts) o in
      kept_join (ids t) (ids_of_all ts) ∙ ap (λ ks. ks ++ kept_ids (ids_of_all ts)) (ids_are t y.0 p.0) ∙ ap (λ ks. numbers t ++ ks) (all_ids_are ts y.1 p.1)

-- ---- places

mutual
  placed_ids : (parent : ℕ) (within : Bool) (t : Tree) → map number (placed parent within t) ≡ ids t
  placed_ids parent within (tree l ts) = ap (λ ns. l.id ∷ ns) (all_placed_ids (parent_below parent l.id) (within || is_content l.mark) ts)

  all_placed_ids : (parent : ℕ) (within : Bool) (ts : Trees) → map number (all_placed parent within ts) ≡ ids_of_all ts
  all_placed_ids parent within none = refl
  all_placed_ids parent within (more t ts) =
      map-append number (placed parent within t) (all_placed parent within ts)
      ∙ ap (λ ns. ns ++ map number (all_placed parent within ts)) (placed_ids parent within t)
      ∙ ap (λ ns. ids t ++ ns) (all_placed_ids parent within ts)

filter_by : (b : Bool) (p : Place) (qs : List Place) (ns : List ℕ) → map number qs ≡ ns
    → map number (if b then p ∷ qs else qs) ≡ (if b then number p ∷ ns else ns)
filter_by true p qs ns e = ap (λ ks. number p ∷ ks) e
filter_by false p qs ns e = e

filter_ids : (ps : List Place) → map number (filter is_kept ps) ≡ kept_ids (map number ps)
filter_ids [] = refl
filter_ids (p ∷ ps) = filter_by (is_kept p) p (filter is_kept ps) (kept_ids (map number ps)) (filter_ids ps)

tests_other : (m n : ℕ) → m ≡ 0 → (m == suc n) ≡ false
tests_other m n e = grind (arith, nat_tests)

zero_is : (n : ℕ) → (n == 0) ≡ true → n ≡ 0
zero_is n e = grind (arith, nat_tests)

-- places without a number aren't found by one
found_by : (b : Bool) (n : ℕ) (p : Place) (ps qs : List Place) → (number p == 0) ≡ b → numbered (suc n) ps ≡ numbered (suc n) qs
    → numbered (suc n) (p ∷ ps) ≡ numbered (suc n) (if not b then p ∷ qs else qs)
found_by true n p ps qs e h = ap (λ t. if t then Some p else numbered (suc n) ps) (tests_other (number p) n (zero_is (number p) e)) ∙ h
found_by false n p ps qs e h = ap (λ o. if number p == suc n then Some p else o) h

pub found_kept : (n : ℕ) (ps : List Place) → numbered (suc n) ps ≡ numbered (suc n) (filter is_kept ps)
found_kept n [] = refl
found_kept n (p ∷ ps) = found_by (number p == 0) n p ps (filter is_kept ps) refl (found_kept n ps)

-- ---- places whose numbers follow one another

test_same : (m a : ℕ) → m ≡ a → (m == a + 0) ≡ true
test_same m a e = grind (arith, nat_tests)

test_later : (m a i : ℕ) → m ≡ a → (m == a + suc i) ≡ false
test_later m a i e = grind (arith, nat_tests)

head_is : (m n : ℕ) (ms ns : List ℕ) → m ∷ ms ≡ n ∷ ns → (m ≡ n) × (ms ≡ ns)
head_is m n ms ns e = (cc, cc)

located : (qs : List Place) (a i k : ℕ) → map number qs ≡ range_with_len a k → numbered (a + i) qs ≡ slice_get qs i
located [] a i k e = refl
located (q ∷ qs) a i zero e = absurd (cc)
located (q ∷ qs) a zero (suc k) e =
    let h = head_is (number q) a (map number qs) (range_with_len (a + 1) k) e in
    ap (λ t. if t then Some q else numbered (a + 0) qs) (test_same (number q) a h.0)
located (q ∷ qs) a (suc i) (suc k) e =
    let h = head_is (number q) a (map number qs) (range_with_len (a + 1) k) e in
    let n : a + suc i ≡ (a + 1) + i = omega arith in
    ap (λ t. if t then Some q else numbered (a + suc i) qs) (test_later (number q) a i h.0) ∙ ap (λ m. numbered m qs) n ∙ located qs (a + 1) i k h.1

-- ---- the index of a page

-- the numbers of the page's other places
record Ordered (t : Tree) : Type 0 where
  root : (label t).id ≡ 0
  kept : map number (filter is_kept (places t)) ≡ range_with_len 1 (length (numbers t))

pub filter_root : (p : Place) (ps : List Place) → number p ≡ 0 → filter is_kept (p ∷ ps) ≡ filter is_kept ps
filter_root p ps e = ap (λ b. if not b then p ∷ filter is_kept ps else filter is_kept ps) (is_zero (number p) e)

body_others : (t : Tree) → (label t).kind ≡ kind.Body → AllZero (others t) → (label t).id ≡ 0
body_others (tree l ts) b z = by_numbered (is_numbered l.kind) (ap is_numbered b) z
  where
    by_numbered : (n : Bool) → n ≡ false → AllZero ((if n then [] else l.id ∷ []) ++ (if is_group l.kind then ids_of_all ts else others_of_all ts)) → l.id ≡ 0
    by_numbered true e z = absurd (cc)
    by_numbered false e z = z.0

ordered : (t : Tree) → (label t).kind ≡ kind.Body → InPreorder t → Ordered t
ordered t b h =
    let z : AllZero (others t) = recursion_from_All (λ n. n ≡ 0) (others t) h.unnumbered in
    let o : NoZero (numbers t) = subst NoZero (sym h.counted) (range_no_zero (length (numbers t)) 1 (omega arith)) in
    record { root = body_others t b z; kept = filter_ids (places t) ∙ ap kept_ids (placed_ids 0 false t) ∙ ids_are t z o ∙ h.counted }

root_place : (t : Tree) → (p : Place) × (ps : List Place) × (places t ≡ p ∷ ps) × (number p ≡ (label t).id)
root_place (tree l ts) = (record { node = tree l ts; parent = 0; in_content = false }, all_placed (parent_below 0 l.id) (is_content l.mark) ts, refl, refl)

at_index : (p : Place) (ps : List Place) (n k : ℕ) → number p ≡ 0 → map number (filter is_kept (p ∷ ps)) ≡ range_with_len 1 k
    → slice_get (p ∷ filter is_kept (p ∷ ps)) n ≡ numbered n (p ∷ ps)
at_index p ps zero k e h = sym (ap (λ b. if b then Some p else numbered 0 ps) (is_zero (number p) e))
at_index p ps (suc n) k e h =
    let m : suc n ≡ 1 + n = omega arith in
    sym (found_kept n (p ∷ ps) ∙ ap (λ i. numbered i (filter is_kept (p ∷ ps))) m ∙ located (filter is_kept (p ∷ ps)) 1 n k h)

-- the same of visits
filter_seen : (vs : List Visit) → all_seen (filter has_number vs) ≡ filter is_kept (all_seen vs)
filter_seen [] = refl
filter_seen (v ∷ vs) = seen_by (has_number v) v (filter has_number vs) (filter is_kept (all_seen vs)) (filter_seen vs)
    ∙ ap (λ n. if not (n == 0) then seen v ∷ filter is_kept (all_seen vs) else filter is_kept (all_seen vs)) (sym (number_seen v))
  where
    seen_by : (b : Bool) (v : Visit) (us : List Visit) (ps : List Place) → all_seen us ≡ ps
        → all_seen (if b then v ∷ us else us) ≡ (if b then seen v ∷ ps else ps)
    seen_by true v us ps e = ap (λ qs. seen v ∷ qs) e
    seen_by false v us ps e = e

index_seen : (vs : List Visit) (p : Place) (ps : List Place) → all_seen vs ≡ p ∷ ps → all_seen (index_list vs) ≡ p ∷ filter is_kept (p ∷ ps)
index_seen [] p ps e = absurd (cc)
index_seen (v ∷ vs) p ps e =
    let h : (seen v ≡ p) × (all_seen vs ≡ ps) = (cc, cc) in
    ap (λ qs. seen v ∷ qs) (filter_seen (v ∷ vs)) ∙ ap (λ qs. seen v ∷ filter is_kept qs) e ∙ ap (λ q. q ∷ filter is_kept (p ∷ ps)) h.0

index_at : (t : Tree) (vs : List Visit) (n : ℕ) → (label t).kind ≡ kind.Body → InPreorder t → all_seen vs ≡ places t → indexed (index_list vs) n ≡ page_of t n
index_at t vs n b h e =
    let o = ordered t b h in
    let r = root_place t in
    let s : all_seen vs ≡ r.0 ∷ r.1 = e ∙ r.2 in
    let k : map number (filter is_kept (r.0 ∷ r.1)) ≡ range_with_len 1 (length (numbers t)) = ap (λ ps. map number (filter is_kept ps)) (sym r.2) ∙ o.kept in
    sym (slice_get-map seen (index_list vs) n) ∙ ap (λ ps. slice_get ps n) (index_seen vs r.0 r.1 s)
    ∙ at_index r.0 r.1 n (length (numbers t)) (r.3 ∙ o.root) k ∙ ap (numbered n) (sym r.2)

pub index_is : (t : Tree) (vs : List Visit) → (label t).kind ≡ kind.Body → InPreorder t → all_seen vs ≡ places t → indexed (index_list vs) ≡ page_of t
index_is t vs b h e = λ i n. index_at t vs n b h e i

-- the numbers of the kept nodes of a page
pub page_numbers : (t : Tree) → (label t).kind ≡ kind.Body → InPreorder t → map number (filter is_kept (places t)) ≡ range_with_len 1 (length (numbers t))
page_numbers t b h = (ordered t b h).kept

-- the number of its root, and of all its nodes
pub record PageNumbers (t : Tree) : Type 0 where
  pub root : (label t).id ≡ 0
  pub unnumbered : AllZero (others t)
  pub counted : NoZero (numbers t)

pub all_page_numbers : (t : Tree) → (label t).kind ≡ kind.Body → InPreorder t → PageNumbers t
all_page_numbers t b h =
    let z : AllZero (others t) = recursion_from_All (λ n. n ≡ 0) (others t) h.unnumbered in
    record {
      root = body_others t b z;
      unnumbered = z;
      counted = subst NoZero (sym h.counted) (range_no_zero (length (numbers t)) 1 (omega arith));
    }
