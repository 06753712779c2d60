-- All that is found lies in the page.
use Rattle.std.proofs.Common.{◌≡◌, ℕ, ◌+◌, ◌-◌, ◌≤◌, Bool, true, false, List, [], ◌∷◌, ◌++◌, length, take, refl, ap, ◌∙◌, arith}
use Rattle.std.specs.Prelude.{◌==◌, ◌&&◌, nat_lt, Option, Some, None, if◌then◌else◌}
use Rattle.std.specs.List.{AllByRecursion, flat_map, prefix_len}
use Rattle.std.proofs.lemmas.List.{length-drop, length-take-le}
use Rattle.wt_tree.specs.declared.kind.Ranges.{Ranges}
use Rattle.wt_tree.specs.Source.{flat}
use Rattle.wt_tree.specs.Tiling.{is_group}
use Rattle.wt_tree.specs.Tree.{Label, Tree, tree, Trees, none, more}
use Rattle.wt_annotated.specs.Reached.{AreReachedSlices, reached, reached_in_all}
use Rattle.wt_annotated.specs.Slices.{IsSlice, StandsIn, opening_of, slice}
use Rattle.wt_lint.specs.declared.finding.Kind.{Kind}
use Rattle.wt_lint.specs.declared.finding.Kind.TheVariants as kind
use Rattle.wt_lint.specs.declared.place.Place.{Place}
use Rattle.wt_lint.specs.declared.place.Sort.{Sort}
use Rattle.wt_lint.specs.Findings.{all_found, at_range, at_ranges, found, found_from, stray_ends, titles_after, whole}
use Rattle.wt_lint.specs.Found.{Span, KindAndRange, as_all}
use Rattle.wt_lint.specs.Kinds.{kinds}
use Rattle.wt_lint.specs.Nodes.{Stand, below, nodes, nodes_in_all, sort_of, start_of, top}
use Rattle.wt_lint.specs.Texts.{when, run_at, runs, pairs, ends_table, end_at, stands_first, table_ends}
use Rattle.wt_lint.specs.Within.{IsRange, LiesIn}
use Rattle.wt_lint.proofs.LineLaws.{prefix_few}

-- ---- lists

pub join : {X : Type 0} (P : X → Type 0) (xs ys : List X) → AllByRecursion P xs → AllByRecursion P ys → AllByRecursion P (xs ++ ys)
join P [] ys h k = k
join P (x ∷ xs) ys h k = (h.0, join P xs ys h.1 k)

front : {X : Type 0} (P : X → Type 0) (xs ys : List X) → AllByRecursion P (xs ++ ys) → AllByRecursion P xs
front P [] ys h = tt
front P (x ∷ xs) ys h = (h.0, front P xs ys h.1)

back : {X : Type 0} (P : X → Type 0) (xs ys : List X) → AllByRecursion P (xs ++ ys) → AllByRecursion P ys
back P [] ys h = h
back P (x ∷ xs) ys h = back P xs ys h.1

pub join_all : {X Y : Type 0} (P : Y → Type 0) (f : X → List Y) (xs : List X) → ((x : X) → AllByRecursion P (f x)) → AllByRecursion P (flat_map f xs)
join_all P f [] h = tt
join_all P f (x ∷ xs) h = join P (f x) (flat_map f xs) (h x) (join_all P f xs h)

pub held_when : (size : ℕ) (v : Bool) (spans : List Span) → (v ≡ true → AllByRecursion (IsRange size) spans) → AllByRecursion (IsRange size) (when v spans)
held_when size true spans h = h refl
held_when size false spans h = tt

-- ---- texts

run_lies : (size byte at : ℕ) (bs : List ℕ) → at + length bs ≤ size → AllByRecursion (IsRange size) (run_at byte at bs)
run_lies size byte at bs h =
    let n = prefix_len (λ b. b == byte) bs in
    let le : n ≤ length bs = prefix_few (λ b. b == byte) bs in
    held_when size (nat_lt 1 n) ((at, at + n) ∷ []) (λ _. ((omega arith, omega (arith, h, le)), tt))

runs_lie : (size byte at : ℕ) (behind : Bool) (bs : List ℕ) → at + length bs ≤ size → AllByRecursion (IsRange size) (runs byte at behind bs)
runs_lie size byte at behind [] h = tt
runs_lie size byte at behind (b ∷ bs) h =
    join (IsRange size) (if behind then [] else run_at byte at (b ∷ bs)) (runs byte (at + 1) (b == byte) bs) (by behind)
    (runs_lie size byte (at + 1) (b == byte) bs (omega (arith, h)))
  where
    by : (v : Bool) → AllByRecursion (IsRange size) (if v then [] else run_at byte at (b ∷ bs))
    by true = tt
    by false = run_lies size byte at (b ∷ bs) h

pairs_lie : (size byte at : ℕ) (bs : List ℕ) → at + length bs ≤ size → AllByRecursion (IsRange size) (pairs byte at bs)
pairs_lie size byte at [] h = tt
pairs_lie size byte at (b ∷ []) h = tt
pairs_lie size byte at (b ∷ c ∷ bs) h =
    by (b == byte && c == byte) (pairs_lie size byte (at + 2) bs (omega (arith, h))) (pairs_lie size byte (at + 1) (c ∷ bs) (omega (arith, h)))
  where
    by : (v : Bool) → AllByRecursion (IsRange size) (pairs byte (at + 2) bs) → AllByRecursion (IsRange size) (pairs byte (at + 1) (c ∷ bs))
        → AllByRecursion (IsRange size) (if v then (at, at + 2) ∷ pairs byte (at + 2) bs else pairs byte (at + 1) (c ∷ bs))
    by true k l = ((omega arith, omega (arith, h)), k)
    by false k l = l

pub two_long : (bs : List ℕ) → ends_table bs ≡ true → 2 ≤ length bs
two_long [] e = cc
two_long (b ∷ []) e = absurd (not_one (b == 124) e)
  where
    not_one : (t : Bool) → (t && false) ≡ true → ⊥
    not_one true e = cc
    not_one false e = cc
two_long (b ∷ c ∷ bs) e = omega arith

pub first_of : (v w : Bool) → (v && w) ≡ true → v ≡ true
first_of true w e = refl
first_of false w e = e

ends_lie : (size : ℕ) (page : List ℕ) (from at : ℕ) (bs : List ℕ) → at + length bs ≤ size → AllByRecursion (IsRange size) (table_ends page from at bs)
ends_lie size page from at [] h = tt
ends_lie size page from at (b ∷ bs) h =
    join (IsRange size) (end_at page from at (b ∷ bs)) (table_ends page from (at + 1) bs)
    (held_when size (ends_table (b ∷ bs) && stands_first page from at) ((at, at + 2) ∷ [])
    (λ e. ((omega arith, omega (arith, h, two_long (b ∷ bs) (first_of (ends_table (b ∷ bs)) (stands_first page from at) e))), tt)))
    (ends_lie size page from (at + 1) bs (omega (arith, h)))

-- ---- a node

-- a range of the page
abbrev pub IsOf : List ℕ → Ranges → Type 0
IsOf page r = (r.start ≤ r.end) × (r.end ≤ length page)

text_size : (page : List ℕ) (r : Ranges) → IsOf page r → r.start + length (slice page r.start r.end) ≤ length page
text_size page r h =
    let n : length (slice page r.start r.end) ≡ r.end - r.start =
    length-drop r.start (take r.end page) ∙ ap (λ (m : ℕ). m - r.start) (length-take-le r.end page h.1) in
    omega (arith, n, h.0, h.1)

whole_lies : (page : List ℕ) (r : Ranges) (v : Bool) → IsOf page r → AllByRecursion (IsRange (length page)) (whole v r)
whole_lies page r v h = held_when (length page) v ((r.start, r.end) ∷ []) (λ _. (h, tt))

stray_lie : (page : List ℕ) (o : Option ℕ) (r : Ranges) → IsOf page r → AllByRecursion (IsRange (length page)) (stray_ends page o r)
stray_lie page None r h = tt
stray_lie page (Some from) r h = ends_lie (length page) page from r.start (slice page r.start r.end) (text_size page r h)

found_lie : (page : List ℕ) (titles : List (List ℕ)) (p : Place) (s : Sort) (l : Label) (r : Ranges) (k : Kind) → IsOf page r
    → AllByRecursion (IsRange (length page)) (found page titles p s l r k)
found_lie page titles p s l r kind.OpenStyle h = whole_lies page r _ h
found_lie page titles p s l r kind.OpenTable h = whole_lies page r _ h
found_lie page titles p s l r kind.StrayTableEnd h = held_when (length page) _ (stray_ends page p.paragraph r) (λ _. stray_lie page p.paragraph r h)
found_lie page titles p s l r kind.OpenTag h = whole_lies page r _ h
found_lie page titles p s l r kind.StrayTag h = whole_lies page r _ h
found_lie page titles p s l r kind.OpenBraces h =
    held_when (length page) _ (runs 123 r.start false (slice page r.start r.end)) (λ _. runs_lie (length page) 123 r.start false (slice page r.start r.end) (text_size page r h))
found_lie page titles p s l r kind.StrayBraces h =
    held_when (length page) _ (runs 125 r.start false (slice page r.start r.end)) (λ _. runs_lie (length page) 125 r.start false (slice page r.start r.end) (text_size page r h))
found_lie page titles p s l r kind.OpenLink h =
    held_when (length page) _ (pairs 91 r.start (slice page r.start r.end)) (λ _. pairs_lie (length page) 91 r.start (slice page r.start r.end) (text_size page r h))
found_lie page titles p s l r kind.StrayLinkEnd h =
    held_when (length page) _ (pairs 93 r.start (slice page r.start r.end)) (λ _. pairs_lie (length page) 93 r.start (slice page r.start r.end) (text_size page r h))
found_lie page titles p s l r kind.UnequalHeading h = whole_lies page r _ h
found_lie page titles p s l r kind.RepeatedCategory h = whole_lies page r _ h

as_all_lie : (page : List ℕ) (k : Kind) (spans : List Span) → AllByRecursion (IsRange (length page)) spans → AllByRecursion (LiesIn page) (as_all k spans)
as_all_lie page k [] h = tt
as_all_lie page k (s ∷ spans) h = (h.0, as_all_lie page k spans h.1)

at_range_lie : (page : List ℕ) (titles : List (List ℕ)) (p : Place) (l : Label) (r : Ranges) → IsOf page r → AllByRecursion (LiesIn page) (at_range page titles p l r)
at_range_lie page titles p l r h =
    join_all (LiesIn page) (λ k. as_all k (found page titles p (sort_of l.kind) l r k)) kinds
    (λ k. as_all_lie page k (found page titles p (sort_of l.kind) l r k) (found_lie page titles p (sort_of l.kind) l r k h))

-- ---- all nodes

-- what holds of all that is found at a node whose range lies in the page
abbrev pub Here : (KindAndRange → Type 0) → List ℕ → Type 0
Here P page = (titles : List (List ℕ)) (p : Place) (l : Label) (r : Ranges) → IsOf page r → AllByRecursion P (at_range page titles p l r)

at_node : (P : KindAndRange → Type 0) (page : List ℕ) → Here P page → (titles : List (List ℕ)) (p : Place) (l : Label) (o : Option Ranges)
    (source opening closing : List ℕ) → StandsIn page o source opening closing → AllByRecursion P (at_ranges page titles p l o)
at_node P page here titles p l None source opening closing h = tt
at_node P page here titles p l (Some r) source opening closing h = here titles p l r (h.ordered, h.within)

-- it holds at a node, whatever stands before it
abbrev Holds : (KindAndRange → Type 0) → List ℕ → Stand → Type 0
Holds P page (p, l) = (titles : List (List ℕ)) → AllByRecursion P (at_ranges page titles p l l.ranges)

mutual
  at_tree : (P : KindAndRange → Type 0) (page : List ℕ) → Here P page → (p : Place) (t : Tree) → AllByRecursion (IsSlice page) (reached t)
      → AllByRecursion (Holds P page) (nodes p t)
  at_tree P page here p (tree l ts) h = (
    (λ titles. at_node P page here titles p l l.ranges (flat (tree l ts)) (opening_of l) l.closing h.0),
    inside (is_group l.kind) (λ k. at_trees P page here (below p (sort_of l.kind) (start_of l.ranges)) ts k) h.1,
  )
    where
      inside : (v : Bool) → (AllByRecursion (IsSlice page) (reached_in_all ts) → AllByRecursion (Holds P page) (nodes_in_all (below p (sort_of l.kind) (start_of l.ranges)) ts))
          → AllByRecursion (IsSlice page) (if v then [] else reached_in_all ts)
          → AllByRecursion (Holds P page) (if v then [] else nodes_in_all (below p (sort_of l.kind) (start_of l.ranges)) ts)
      inside true f h = tt
      inside false f h = f h

  at_trees : (P : KindAndRange → Type 0) (page : List ℕ) → Here P page → (p : Place) (ts : Trees) → AllByRecursion (IsSlice page) (reached_in_all ts)
      → AllByRecursion (Holds P page) (nodes_in_all p ts)
  at_trees P page here p none h = tt
  at_trees P page here p (more t ts) h =
      join (Holds P page) (nodes p t) (nodes_in_all p ts) (at_tree P page here p t (front (IsSlice page) (reached t) (reached_in_all ts) h))
      (at_trees P page here p ts (back (IsSlice page) (reached t) (reached_in_all ts) h))

from_nodes : (P : KindAndRange → Type 0) (page : List ℕ) (titles : List (List ℕ)) (ns : List Stand) → AllByRecursion (Holds P page) ns
    → AllByRecursion P (found_from page titles ns)
from_nodes P page titles [] h = tt
from_nodes P page titles ((p, l) ∷ ns) h =
    join P (at_ranges page titles p l l.ranges) (found_from page (titles_after l titles) ns) (h.0 titles)
    (from_nodes P page (titles_after l titles) ns h.1)

pub holds_of_all : (P : KindAndRange → Type 0) (page : List ℕ) → Here P page → (t : Tree) → AreReachedSlices page t → AllByRecursion P (all_found page t)
holds_of_all P page here t h = from_nodes P page [] (nodes top t) (at_tree P page here top t h)

pub found_lie_in : (page : List ℕ) (t : Tree) → AreReachedSlices page t → AllByRecursion (LiesIn page) (all_found page t)
found_lie_in page t h = holds_of_all (LiesIn page) page (at_range_lie page) t h
