-- The nodes of a page with a number, by their places: each lies within the node round it, and under one node they follow one another.
use Rattle.std.proofs.Common.{arith, ◌≡◌, ℕ, ◌+◌, ◌-◌, ◌≤◌, ◌<◌, Bool, true, false, List, [], ◌∷◌, ◌++◌, map, refl, sym, ap, ◌∙◌, subst}
use Rattle.std.specs.Prelude.{◌==◌, ◌&&◌, ◌||◌, not, if◌then◌else◌, filter, Option, Some, None}
use Rattle.std.specs.List.{AllByRecursion}
use Rattle.wt_tree.specs.declared.kind.Ranges.{Ranges}
use Rattle.wt_tree.specs.Kinds.{is_leaf}
use Rattle.wt_tree.specs.Tiling.{Tiled, TiledBy, TiledFrom, BeginsAt, end_of, ids, ids_of_all}
use Rattle.wt_tree.specs.Tree.{Tree, tree, Trees, none, more, label}
use Rattle.wt_checks.specs.Kept.{kept_under}
use Rattle.wt_checks.specs.Places.{Place, placed, all_placed, number, kind_at, is_kept, is_content, Page, parent_below}
use Rattle.wt_checks.proofs.Found.{Itself}
use Rattle.wt_checks.proofs.InOrder.{Increasing, Above, kept_not_zero, same_by, test_other}
use Rattle.wt_checks.proofs.Lookups.{each_split, each_join, AllZero}
use Rattle.wt_selser.specs.Leaves.{LeavesHoldNoNumber, AllLeavesHoldNoNumber}
use Rattle.wt_selser.proofs.Chains.{Chain, end_after, chain_lower, end_lower, chain_join, end_join}

-- ---- where a number begins and ends

abbrev pub ranges_at : Option Place → Option Ranges
ranges_at None = None
ranges_at (Some q) = (label q.node).ranges

abbrev pub start_of : Option Ranges → ℕ
start_of None = 0
start_of (Some r) = r.start

abbrev pub starts : Page → ℕ → ℕ
starts page n = start_of (ranges_at (page n))

abbrev pub ends : Page → ℕ → ℕ
ends page n = end_of (ranges_at (page n))

-- its inside lies between its delimiters
abbrev pub HasInside : Option Ranges → Type 0
HasInside None = ⊥
HasInside (Some r) = r.start + r.open_w + r.close_w ≤ r.end

abbrev pub inside_start : Option Ranges → ℕ
inside_start None = 0
inside_start (Some r) = r.start + r.open_w

abbrev pub inside_end : Option Ranges → ℕ
inside_end None = 0
inside_end (Some r) = r.end - r.close_w

-- ---- what tiling says of one node

pub record Tiles (leaf : Bool) (r : Option Ranges) (inside : ℕ → ℕ → Type 0) : Type 0 where
  pub grows : start_of r ≤ end_of r
  pub has : leaf ≡ false → HasInside r
  pub held : leaf ≡ false → inside (inside_start r) (inside_end r)
  pub low : leaf ≡ false → start_of r ≤ inside_start r
  pub high : leaf ≡ false → inside_end r ≤ end_of r

pub tiles : (leaf : Bool) (r : Option Ranges) (inside : ℕ → ℕ → Type 0) → TiledBy leaf r inside → Tiles leaf r inside
tiles leaf None inside h = absurd h
tiles true (Some r) inside h = record { grows = h; has = λ e. absurd (cc); held = λ e. absurd (cc); low = λ e. absurd (cc); high = λ e. absurd (cc) }
tiles false (Some r) inside h = record {
  grows = omega (arith, h.0);
  has = λ e. h.0;
  held = λ e. h.1;
  low = λ e. omega arith;
  high = λ e. omega arith;
}

pub begins : (from : ℕ) (r : Option Ranges) → BeginsAt from r → start_of r ≡ from
begins from None h = absurd h
begins from (Some r) h = h

pub tree_grows : (t : Tree) → Tiled t → start_of (label t).ranges ≤ end_of (label t).ranges
tree_grows (tree l ts) h = (tiles (is_leaf l.kind) l.ranges (λ from to. TiledFrom ts from to) h).grows

pub trees_grow : (ts : Trees) (from to : ℕ) → TiledFrom ts from to → from ≤ to
trees_grow none from to h = omega (arith, h)
trees_grow (more t ts) from to h =
    let b = begins from (label t).ranges h.0 in
    let g = tree_grows t h.1 in
    let r = trees_grow ts (end_of (label t).ranges) to h.2 in
    omega (arith, b, g, r)

-- ---- what stands where nothing has a number

mutual
  none_kept : (P : Place → Type 0) (m : ℕ) (w : Bool) (t : Tree) → AllZero (ids t) → AllByRecursion (λ q. is_kept q ≡ true → P q) (placed m w t)
  none_kept P m w (tree l ts) z = (λ k. absurd (kept_not_zero l.id k z.0), all_none_kept P (parent_below m l.id) (w || is_content l.mark) ts z.1)

  pub all_none_kept : (P : Place → Type 0) (m : ℕ) (w : Bool) (ts : Trees) → AllZero (ids_of_all ts)
      → AllByRecursion (λ q. is_kept q ≡ true → P q) (all_placed m w ts)
  all_none_kept P m w none z = tt
  all_none_kept P m w (more t ts) z =
      let y = each_split (λ n. n ≡ 0) (ids t) (ids_of_all ts) z in
      each_join (λ q. is_kept q ≡ true → P q) (placed m w t) (all_placed m w ts) (none_kept P m w t y.0) (all_none_kept P m w ts y.1)

unkept_by : (k b : Bool) (i : ℕ) (ns : List ℕ) → (k ≡ true → ⊥) → ns ≡ [] → (if k && b then i ∷ ns else ns) ≡ []
unkept_by true b i ns f e = absurd (f refl)
unkept_by false b i ns f e = e

none_under : (n : ℕ) (ps : List Place) → AllByRecursion (λ q. is_kept q ≡ true → ⊥) ps → kept_under n ps ≡ []
none_under n [] h = refl
none_under n (p ∷ ps) h = unkept_by (is_kept p) (p.parent == n) (number p) (kept_under n ps) h.0 (none_under n ps h.1)

-- ---- each node lies within the node round it

pub record Nested (page : Page) (q : Place) : Type 0 where
  pub low : starts page q.parent ≤ start_of (label q.node).ranges
  pub grows : start_of (label q.node).ranges ≤ end_of (label q.node).ranges
  pub high : end_of (label q.node).ranges ≤ ends page q.parent
  pub has : is_leaf (kind_at q) ≡ false → HasInside (label q.node).ranges

abbrev pub NestedWhereKept : Page → Place → Type 0
NestedWhereKept page q = is_kept q ≡ true → Nested page q

pub record Around (page : Page) (m low high : ℕ) : Type 0 where
  pub before : starts page m ≤ low
  pub behind : high ≤ ends page m

around_by : (z : Bool) (page : Page) (m id low high : ℕ) → Around page m low high → (not z ≡ true → Around page id low high)
    → Around page (if z then m else id) low high
around_by true page m id low high a f = a
around_by false page m id low high a f = f refl

itself_around : (page : Page) (p : Place) (low high : ℕ) → page (number p) ≡ Some p → start_of (label p.node).ranges ≤ low
    → high ≤ end_of (label p.node).ranges → Around page (number p) low high
itself_around page p low high e a b =
    let r : ranges_at (page (number p)) ≡ (label p.node).ranges = ap ranges_at e in
    record {
      before = subst (λ (o : Option Ranges). start_of o ≤ low) (sym r) a;
      behind = subst (λ (o : Option Ranges). high ≤ end_of o) (sym r) b;
    }

leaf_or : (b : Bool) (P : Type 0) → (b ≡ true → P) → (b ≡ false → P) → P
leaf_or true P f g = f refl
leaf_or false P f g = g refl

mutual
  pub nested : (page : Page) (m : ℕ) (w : Bool) (t : Tree) → AllByRecursion (Itself page) (placed m w t) → Tiled t → LeavesHoldNoNumber t
      → Around page m (start_of (label t).ranges) (end_of (label t).ranges) → AllByRecursion (NestedWhereKept page) (placed m w t)
  nested page m w (tree l ts) i t b a =
      let p : Place = record { node = tree l ts; parent = m; in_content = w } in
      let x = tiles (is_leaf l.kind) l.ranges (λ from to. TiledFrom ts from to) t in (
        λ k. record { low = a.before; grows = x.grows; high = a.behind; has = x.has },
        leaf_or (is_leaf l.kind) (AllByRecursion (NestedWhereKept page) (all_placed (parent_below m l.id) (w || is_content l.mark) ts))
            (λ e. all_none_kept (Nested page) (parent_below m l.id) (w || is_content l.mark) ts (b.0 e))
            (λ e. let low = x.low e in let high = x.high e in
            all_nested page (parent_below m l.id) (w || is_content l.mark) ts (inside_start l.ranges) (inside_end l.ranges) i.1 (x.held e) b.1
            (around_by (l.id == 0) page m l.id (inside_start l.ranges) (inside_end l.ranges)
            (record { before = omega (arith, a.before, low); behind = omega (arith, a.behind, high) })
            (λ k. itself_around page p (inside_start l.ranges) (inside_end l.ranges) (i.0 k) low high))),
      )

  all_nested : (page : Page) (m : ℕ) (w : Bool) (ts : Trees) (from to : ℕ) → AllByRecursion (Itself page) (all_placed m w ts) → TiledFrom ts from to
      → AllLeavesHoldNoNumber ts → Around page m from to → AllByRecursion (NestedWhereKept page) (all_placed m w ts)
  all_nested page m w none from to i t b a = tt
  all_nested page m w (more t ts) from to i h b a =
      let s = each_split (Itself page) (placed m w t) (all_placed m w ts) i in
      let e = begins from (label t).ranges h.0 in
      let g = tree_grows t h.1 in
      let r = trees_grow ts (end_of (label t).ranges) to h.2 in
      each_join (NestedWhereKept page) (placed m w t) (all_placed m w ts)
      (nested page m w t s.0 h.1 b.0 (record { before = omega (arith, a.before, e); behind = omega (arith, a.behind, r) }))
      (all_nested page m w ts (end_of (label t).ranges) to s.1 h.2 b.1 (record { before = omega (arith, a.before, e, g); behind = a.behind }))

-- ---- numbers grow

abbrev kept_numbers : List Place → List ℕ
kept_numbers ps = map number (filter is_kept ps)

numbers_by : (k : Bool) (p : Place) (qs xs ys : List Place) → map number qs ≡ map number xs ++ map number ys
    → map number (if k then p ∷ qs else qs) ≡ map number (if k then p ∷ xs else xs) ++ map number ys
numbers_by true p qs xs ys e = ap (λ ns. number p ∷ ns) e
numbers_by false p qs xs ys e = e

numbers_join : (xs ys : List Place) → kept_numbers (xs ++ ys) ≡ kept_numbers xs ++ kept_numbers ys
numbers_join [] ys = refl
numbers_join (p ∷ xs) ys = numbers_by (is_kept p) p (filter is_kept (xs ++ ys)) (filter is_kept xs) (filter is_kept ys) (numbers_join xs ys)

increasing_split : (ms ns : List ℕ) → Increasing (ms ++ ns) → Increasing ms × Increasing ns
increasing_split [] ns h = (tt, h)
increasing_split (m ∷ ms) ns h =
    let a = each_split (λ k. m < k) ms ns h.0 in
    let r = increasing_split ms ns h.1 in
    ((a.0, r.0), r.1)

-- numbers grow among these places, and all are greater than this one
pub record Grow (m : ℕ) (ps : List Place) : Type 0 where
  pub above : Above m (kept_numbers ps)
  pub grow : Increasing (kept_numbers ps)

grow_split : (m : ℕ) (xs ys : List Place) → Grow m (xs ++ ys) → Grow m xs × Grow m ys
grow_split m xs ys g =
    let a = each_split (λ k. m < k) (kept_numbers xs) (kept_numbers ys) (subst (Above m) (numbers_join xs ys) g.above) in
    let i = increasing_split (kept_numbers xs) (kept_numbers ys) (subst Increasing (numbers_join xs ys) g.grow) in
    (record { above = a.0; grow = i.0 }, record { above = a.1; grow = i.1 })

-- of a node, and of what stands below it
record GrowsBelow (z : Bool) (m id : ℕ) (ps : List Place) : Type 0 where
  same : Grow m ps
  more_than : not z ≡ true → m < id
  below : Grow (if z then m else id) ps

grows_by : (z : Bool) (m : ℕ) (p : Place) (ps : List Place) → Above m (map number (if not z then p ∷ filter is_kept ps else filter is_kept ps))
    → Increasing (map number (if not z then p ∷ filter is_kept ps else filter is_kept ps)) → GrowsBelow z m (number p) ps
grows_by true m p ps a i = record {
  same = record { above = a; grow = i };
  more_than = λ e. absurd (cc);
  below = record { above = a; grow = i };
}
grows_by false m p ps a i = record {
  same = record { above = a.1; grow = i.1 };
  more_than = λ e. a.0;
  below = record { above = i.0; grow = i.1 };
}

grows_below : (m : ℕ) (p : Place) (ps : List Place) → Grow m (p ∷ ps) → GrowsBelow (number p == 0) m (number p) ps
grows_below m p ps g = grows_by (number p == 0) m p ps g.above g.grow

-- ---- a node's number is no parent of what stands behind or below it

other_by : (k b : Bool) (i : ℕ) (ns : List ℕ) → b ≡ false → ns ≡ [] → (if k && b then i ∷ ns else ns) ≡ []
other_by true true i ns e f = absurd (cc)
other_by true false i ns e f = f
other_by false b i ns e f = f

less_other : (m k : ℕ) → m < k → (k == m) ≡ false
less_other m k lt = test_other k m (λ e. omega (arith, lt, e))

less_below : (z : Bool) (m k id : ℕ) → m < k → (not z ≡ true → m < id) → m < (if z then k else id)
less_below true m k id lt f = lt
less_below false m k id lt f = f refl

above_step : (z : Bool) (m : ℕ) (p : Place) (qs : List Place) → Above m (map number (if not z then p ∷ qs else qs))
    → (not z ≡ true → m < number p) × Above m (map number qs)
above_step true m p qs a = ((λ e. absurd (cc)), a)
above_step false m p qs a = ((λ e. a.0), a.1)

join_by : (b : Bool) (i : ℕ) (all ms ns : List ℕ) → all ≡ ms ++ ns → (if b then i ∷ all else all) ≡ (if b then i ∷ ms else ms) ++ ns
join_by true i all ms ns e = ap (λ ks. i ∷ ks) e
join_by false i all ms ns e = e

pub under_join : (n : ℕ) (xs ys : List Place) → kept_under n (xs ++ ys) ≡ kept_under n xs ++ kept_under n ys
under_join n [] ys = refl
under_join n (p ∷ xs) ys = join_by (is_kept p && p.parent == n) (number p) (kept_under n (xs ++ ys)) (kept_under n xs) (kept_under n ys) (under_join n xs ys)

mutual
  later : (m k : ℕ) (w : Bool) (t : Tree) → m < k → Above m (kept_numbers (placed k w t)) → kept_under m (placed k w t) ≡ []
  later m k w (tree l ts) lt a =
      let p : Place = record { node = tree l ts; parent = k; in_content = w } in
      let s = above_step (l.id == 0) m p (filter is_kept (all_placed (parent_below k l.id) (w || is_content l.mark) ts)) a in
      other_by (is_kept p) (k == m) l.id (kept_under m (all_placed (parent_below k l.id) (w || is_content l.mark) ts)) (less_other m k lt)
      (all_later m (parent_below k l.id) (w || is_content l.mark) ts (less_below (l.id == 0) m k l.id lt s.0) s.1)

  all_later : (m k : ℕ) (w : Bool) (ts : Trees) → m < k → Above m (kept_numbers (all_placed k w ts)) → kept_under m (all_placed k w ts) ≡ []
  all_later m k w none lt a = refl
  all_later m k w (more t ts) lt a =
      let s = each_split (λ i. m < i) (kept_numbers (placed k w t)) (kept_numbers (all_placed k w ts))
      (subst (Above m) (numbers_join (placed k w t) (all_placed k w ts)) a) in
      under_join m (placed k w t) (all_placed k w ts) ∙ ap (λ ns. ns ++ kept_under m (all_placed k w ts)) (later m k w t lt s.0)
      ∙ all_later m k w ts lt s.1

-- ---- under each number nodes follow one another

pub record Follow (page : Page) (from to : ℕ) (ks : List ℕ) : Type 0 where
  pub chain : Chain (starts page) (ends page) from ks
  pub ends_by : end_after (ends page) from ks ≤ to

follow_none : (page : Page) (from to : ℕ) (ks : List ℕ) → from ≤ to → ks ≡ [] → Follow page from to ks
follow_none page from to ks le e = subst (Follow page from to) (sym e) (record { chain = tt; ends_by = le })

follow_wider : (page : Page) (a from to z : ℕ) (ks : List ℕ) → a ≤ from → to ≤ z → Follow page from to ks → Follow page a z ks
follow_wider page a from to z ks low high f =
    let t : end_after (ends page) a ks ≤ end_after (ends page) from ks = end_lower (ends page) a from ks low in
    let u = f.ends_by in
    record { chain = chain_lower (starts page) (ends page) a from ks low f.chain; ends_by = omega (arith, t, u, high) }

follow_join : (page : Page) (from at to : ℕ) (ks js : List ℕ) → Follow page from at ks → Follow page at to js → Follow page from to (ks ++ js)
follow_join page from at to ks js f g =
    let s = starts page in
    let e = ends page in
    let t : end_after e (end_after e from ks) js ≤ end_after e at js = end_lower e (end_after e from ks) at js f.ends_by in
    let u = g.ends_by in
    let j = end_join e from ks js in
    record {
      chain = chain_join s e from ks js f.chain (chain_lower s e (end_after e from ks) at js f.ends_by g.chain);
      ends_by = omega (arith, t, u, j);
    }

-- the node itself stands first, or what stands below it does
first_by : (k b : Bool) (page : Page) (p : Place) (from to : ℕ) (ns : List ℕ) → start_of (label p.node).ranges ≡ from → end_of (label p.node).ranges ≡ to
    → from ≤ to → (k ≡ true → ranges_at (page (number p)) ≡ (label p.node).ranges) → (k ≡ true → b ≡ true → ns ≡ []) → Follow page from to ns
    → Follow page from to (if k && b then number p ∷ ns else ns)
first_by true true page p from to ns s e le r z f =
    let q = r refl in
    let s2 : starts page (number p) ≡ from = ap start_of q ∙ s in
    let e2 : ends page (number p) ≡ to = ap end_of q ∙ e in
    subst (λ (ks : List ℕ). Follow page from to (number p ∷ ks)) (sym (z refl refl))
    (record { chain = (omega (arith, s2), omega (arith, s2, e2, le), tt); ends_by = omega (arith, e2) })
first_by true false page p from to ns s e le r z f = f
first_by false b page p from to ns s e le r z f = f

less_down : (z : Bool) (m id : ℕ) → not z ≡ true → (not z ≡ true → m < id) → m < (if z then m else id)
less_down true m id e f = absurd (cc)
less_down false m id e f = f refl

mutual
  pub follow : (page : Page) (n m : ℕ) (w : Bool) (t : Tree) → AllByRecursion (Itself page) (placed m w t) → Tiled t → LeavesHoldNoNumber t
      → Grow m (placed m w t) → Follow page (start_of (label t).ranges) (end_of (label t).ranges) (kept_under n (placed m w t))
  follow page n m w (tree l ts) i t b g =
      let p : Place = record { node = tree l ts; parent = m; in_content = w } in
      let x = tiles (is_leaf l.kind) l.ranges (λ from to. TiledFrom ts from to) t in
      let down = parent_below m l.id in
      let v = w || is_content l.mark in
      let d = grows_below m p (all_placed down v ts) g in
      first_by (is_kept p) (m == n) page p (start_of l.ranges) (end_of l.ranges) (kept_under n (all_placed down v ts)) refl refl x.grows
      (λ k. ap ranges_at (i.0 k))
      (λ k e. subst (λ (j : ℕ). kept_under j (all_placed down v ts) ≡ []) (same_by m n e)
      (all_later m down v ts (less_down (l.id == 0) m l.id k d.more_than) d.same.above))
      (leaf_or (is_leaf l.kind) (Follow page (start_of l.ranges) (end_of l.ranges) (kept_under n (all_placed down v ts)))
      (λ e. follow_none page (start_of l.ranges) (end_of l.ranges) (kept_under n (all_placed down v ts)) x.grows
      (none_under n (all_placed down v ts) (all_none_kept (λ q. ⊥) down v ts (b.0 e))))
      (λ e. follow_wider page (start_of l.ranges) (inside_start l.ranges) (inside_end l.ranges) (end_of l.ranges) (kept_under n (all_placed down v ts))
      (x.low e) (x.high e) (all_follow page n down v ts (inside_start l.ranges) (inside_end l.ranges) i.1 (x.held e) b.1 d.below)))

  all_follow : (page : Page) (n m : ℕ) (w : Bool) (ts : Trees) (from to : ℕ) → AllByRecursion (Itself page) (all_placed m w ts) → TiledFrom ts from to
      → AllLeavesHoldNoNumber ts → Grow m (all_placed m w ts) → Follow page from to (kept_under n (all_placed m w ts))
  all_follow page n m w none from to i h b g = record { chain = tt; ends_by = omega (arith, h) }
  all_follow page n m w (more t ts) from to i h b g =
      let s = each_split (Itself page) (placed m w t) (all_placed m w ts) i in
      let e = begins from (label t).ranges h.0 in
      let u = grow_split m (placed m w t) (all_placed m w ts) g in
      subst (Follow page from to) (sym (under_join n (placed m w t) (all_placed m w ts)))
      (follow_join page from (end_of (label t).ranges) to (kept_under n (placed m w t)) (kept_under n (all_placed m w ts))
      (follow_wider page from (start_of (label t).ranges) (end_of (label t).ranges) (end_of (label t).ranges) (kept_under n (placed m w t))
      (omega (arith, e)) (omega arith) (follow page n m w t s.0 h.1 b.0 u.0))
      (all_follow page n m w ts (end_of (label t).ranges) to s.1 h.2 b.1 u.1))
