-- Where the nodes of a page stand: each in the inside of the node that holds it, those of one node one after the other,
-- and each is found by its number with all that is in it.
use Rattle.std.proofs.Common.{◌≡◌, ◌≢◌, ◌≤◌, ◌<◌, ◌⊎◌, ℕ, zero, suc, Bool, true, false, Some, List, [], ◌∷◌, ◌++◌, map, refl, sym, ap, ◌∙◌, subst, inl, inr, arith, true≢false}
use Rattle.std.specs.Prelude.{◌==◌, ◌||◌, not, if◌then◌else◌, filter}
use Rattle.std.specs.List.{AllByRecursion}
use Rattle.wt_tree.specs.Kinds.{is_leaf}
use Rattle.wt_tree.specs.Tiling.{ids, ids_of_all, Tiled, TiledFrom}
use Rattle.wt_tree.specs.Tree.{Label, Tree, tree, Trees, none, more, label}
use Rattle.wt_checks.specs.Kept.{children}
use Rattle.wt_checks.specs.Places.{Place, all_placed, is_content, is_kept, number, numbered, Page, page_of, parent_below, placed, places}
use Rattle.wt_checks.proofs.Found.{Itself, each_itself, found_has, found_root}
use Rattle.wt_checks.proofs.InOrder.{Above, Increasing, kept_not_zero, not_zero_kept, same_by, zero_of}
use Rattle.wt_checks.proofs.Lookups.{AllZero, all_page_numbers, each_join, each_split}
use Rattle.wt_checks.proofs.WhatIsKept.{increasing}
use Rattle.wt_places.specs.Places.{inside_start, inside_stop}
use Rattle.wt_call_laws.specs.Untouched.{AllLeavesAreBare, IsWholePage, LeavesAreBare}
use Rattle.wt_call_laws.proofs.Fitting.{begins, closes_before, end_at, in_order, opens_behind, start_at, through, whole}

-- ---- places

-- what is said of a place with a number
abbrev pub IfKept : (Place → Type 0) → Place → Type 0
IfKept P q = is_kept q ≡ true → P q

all_of : (P : Place → Type 0) (ps : List Place) → ((q : Place) → P q) → AllByRecursion P ps
all_of P [] f = tt
all_of P (p ∷ ps) f = (f p, all_of P ps f)

-- below what has no numbers nothing is kept
mutual
  none_kept : (P : Place → Type 0) (parent : ℕ) (w : Bool) (t : Tree) → AllZero (ids t) → AllByRecursion (IfKept P) (placed parent w t)
  none_kept P parent w (tree l ts) z = (
    λ k. absurd (kept_not_zero l.id k z.0),
    none_kept_of P (parent_below parent l.id) (w || is_content l.mark) ts z.1,
  )

  pub none_kept_of : (P : Place → Type 0) (parent : ℕ) (w : Bool) (ts : Trees) → AllZero (ids_of_all ts) → AllByRecursion (IfKept P) (all_placed parent w ts)
  none_kept_of P parent w none z = tt
  none_kept_of P parent w (more t ts) z =
      let y = each_split (λ n. n ≡ 0) (ids t) (ids_of_all ts) z in
      each_join (IfKept P) (placed parent w t) (all_placed parent w ts) (none_kept P parent w t y.0) (none_kept_of P parent w ts y.1)

-- ---- each in the inside of the one that holds it

pub record Within (r q : Tree) : Type 0 where
  pub least : inside_start (label r).ranges ≤ start_at q
  pub most : end_at q ≤ inside_stop (label r).ranges

-- the page's node with the number of its kept parent holds it in its inside
abbrev IsIn : Page → Place → Type 0
IsIn page q = (r : Place) → page q.parent ≡ Some r → Within r.node q.node

same_place : (p q : Place) → Some p ≡ Some q → p ≡ q
same_place p q e = cc

-- what a node holds is held by itself, if it has a number, or by the node that holds it
record Holder (page : Page) (n : ℕ) (l : Label) : Type 0 where
  place : Place
  found : page n ≡ Some place
  least : inside_start (label place.node).ranges ≤ inside_start l.ranges
  most : inside_stop l.ranges ≤ inside_stop (label place.node).ranges

holder : (page : Page) (parent : ℕ) (w : Bool) (l : Label) (ts : Trees) (r : Place) (v : Bool) → (l.id == 0) ≡ v
    → Itself page (record { node = tree l ts; parent = parent; in_content = w }) → page parent ≡ Some r → Within r.node (tree l ts)
    → Holder page (if v then parent else l.id) l
holder page parent w l ts r true z h e i =
    let least = i.least in
    let most = i.most in
    let opens = opens_behind l.ranges in
    let closes = closes_before l.ranges in
    record { place = r; found = e; least = omega (arith, least, opens); most = omega (arith, most, closes) }
holder page parent w l ts r false z h e i = record {
  place = record { node = tree l ts; parent = parent; in_content = w };
  found = h (ap not z);
  least = omega arith;
  most = omega arith;
}

mutual
  lies : (page : Page) (parent : ℕ) (w : Bool) (t : Tree) (r : Place) → AllByRecursion (Itself page) (placed parent w t) → page parent ≡ Some r
      → Within r.node t → Tiled t → LeavesAreBare t → AllByRecursion (IfKept (IsIn page)) (placed parent w t)
  lies page parent w (tree l ts) r h e i tiled bare =
      let b : Holder page (parent_below parent l.id) l = holder page parent w l ts r (l.id == 0) refl h.0 e i in (
        λ k q f. subst (λ (p : Place). Within p.node (tree l ts)) (same_place r q (sym e ∙ f)) i,
        through (is_leaf l.kind) l.ranges ts (AllByRecursion (IfKept (IsIn page)) (all_placed (parent_below parent l.id) (w || is_content l.mark) ts)) tiled
            (λ x. none_kept_of (IsIn page) (parent_below parent l.id) (w || is_content l.mark) ts (bare.0 x))
            (λ x y. all_lie page (parent_below parent l.id) (w || is_content l.mark) ts b.place (inside_start l.ranges) (inside_stop l.ranges) h.1
            b.found b.least b.most y bare.1),
      )

  all_lie : (page : Page) (parent : ℕ) (w : Bool) (ts : Trees) (r : Place) (a b : ℕ) → AllByRecursion (Itself page) (all_placed parent w ts)
      → page parent ≡ Some r → inside_start (label r.node).ranges ≤ a → b ≤ inside_stop (label r.node).ranges → TiledFrom ts a b → AllLeavesAreBare ts
      → AllByRecursion (IfKept (IsIn page)) (all_placed parent w ts)
  all_lie page parent w none r a b h e least most tiled bare = tt
  all_lie page parent w (more t ts) r a b h e least most tiled bare =
      let s = each_split (Itself page) (placed parent w t) (all_placed parent w ts) h in
      let first = begins a (label t).ranges tiled.0 in
      let all = whole t tiled.1 in
      let rest = in_order ts (end_at t) b tiled.2 in
      each_join (IfKept (IsIn page)) (placed parent w t) (all_placed parent w ts)
      (lies page parent w t r s.0 e (record { least = omega (arith, first, least); most = omega (arith, rest, most) }) tiled.1 bare.0)
      (all_lie page parent w ts r (end_at t) b s.1 e (omega (arith, first, all, least)) most tiled.2 bare.1)

-- ---- those of one node one after the other

abbrev Between : ℕ → ℕ → Place → Type 0
Between a b q = (a ≤ start_at q.node) × (end_at q.node ≤ b)

mutual
  bounded : (parent : ℕ) (w : Bool) (t : Tree) (a b : ℕ) → a ≤ start_at t → end_at t ≤ b → Tiled t → LeavesAreBare t
      → AllByRecursion (IfKept (Between a b)) (placed parent w t)
  bounded parent w (tree l ts) a b least most tiled bare =
      let opens = opens_behind l.ranges in
      let closes = closes_before l.ranges in (
        λ k. (least, most),
        through (is_leaf l.kind) l.ranges ts (AllByRecursion (IfKept (Between a b)) (all_placed (parent_below parent l.id) (w || is_content l.mark) ts)) tiled
            (λ x. none_kept_of (Between a b) (parent_below parent l.id) (w || is_content l.mark) ts (bare.0 x))
            (λ x y. all_bounded (parent_below parent l.id) (w || is_content l.mark) ts (inside_start l.ranges) (inside_stop l.ranges) a b
            (omega (arith, least, opens)) (omega (arith, most, closes)) y bare.1),
      )

  all_bounded : (parent : ℕ) (w : Bool) (ts : Trees) (c d a b : ℕ) → a ≤ c → d ≤ b → TiledFrom ts c d → AllLeavesAreBare ts
      → AllByRecursion (IfKept (Between a b)) (all_placed parent w ts)
  all_bounded parent w none c d a b least most tiled bare = tt
  all_bounded parent w (more t ts) c d a b least most tiled bare =
      let first = begins c (label t).ranges tiled.0 in
      let all = whole t tiled.1 in
      let rest = in_order ts (end_at t) d tiled.2 in
      each_join (IfKept (Between a b)) (placed parent w t) (all_placed parent w ts)
      (bounded parent w t a b (omega (arith, first, least)) (omega (arith, rest, most)) tiled.1 bare.0)
      (all_bounded parent w ts (end_at t) d a b (omega (arith, first, all, least)) most tiled.2 bare.1)

-- the numbers of places rise
abbrev pub Greater : ℕ → Place → Type 0
Greater n q = n < number q

abbrev pub InNumber : List Place → Type 0
InNumber [] = Unit {0}
InNumber (p ∷ ps) = (is_kept p ≡ true → AllByRecursion (IfKept (Greater (number p))) ps) × InNumber ps

above_head : (k : Bool) (n : ℕ) (p : Place) (qs : List Place) → k ≡ true → Above n (map number (if k then p ∷ qs else qs)) → n < number p
above_head true n p qs e h = h.0
above_head false n p qs e h = absurd (true≢false (sym e))

above_rest : (k : Bool) (n : ℕ) (p : Place) (qs : List Place) → Above n (map number (if k then p ∷ qs else qs)) → Above n (map number qs)
above_rest true n p qs h = h.1
above_rest false n p qs h = h

greater_of : (n : ℕ) (ps : List Place) → Above n (map number (filter is_kept ps)) → AllByRecursion (IfKept (Greater n)) ps
greater_of n [] h = tt
greater_of n (p ∷ ps) h = (
  λ k. above_head (is_kept p) n p (filter is_kept ps) k h,
  greater_of n ps (above_rest (is_kept p) n p (filter is_kept ps) h),
)

head_by : (k : Bool) (p : Place) (ps : List Place) → is_kept p ≡ k → Increasing (map number (if k then p ∷ filter is_kept ps else filter is_kept ps))
    → (is_kept p ≡ true → AllByRecursion (IfKept (Greater (number p))) ps) × Increasing (map number (filter is_kept ps))
head_by true p ps e h = (λ k. greater_of (number p) ps h.0, h.1)
head_by false p ps e h = (λ k. absurd (true≢false (sym k ∙ e)), h)

pub in_number : (ps : List Place) → Increasing (map number (filter is_kept ps)) → InNumber ps
in_number [] h = tt
in_number (p ∷ ps) h = let s = head_by (is_kept p) p ps refl h in (s.0, in_number ps s.1)

pub number_split : (xs ys : List Place) → InNumber (xs ++ ys) → InNumber xs × InNumber ys
number_split [] ys h = (tt, h)
number_split (x ∷ xs) ys h =
    let r = number_split xs ys h.1 in ((λ k. (each_split (IfKept (Greater (number x))) xs ys (h.0 k)).0, r.0), r.1)

-- of two that are kept by the same node the later one begins where the earlier one ends, or after it
abbrev Follows : Place → Place → Type 0
Follows p q = is_kept p ≡ true → p.parent ≡ q.parent → end_at p.node ≤ start_at q.node

abbrev AllFollow : List Place → Type 0
AllFollow [] = Unit {0}
AllFollow (p ∷ ps) = AllByRecursion (IfKept (Follows p)) ps × AllFollow ps

none_follow : (ps : List Place) → AllByRecursion (IfKept (λ q. ⊥)) ps → AllFollow ps
none_follow [] h = tt
none_follow (p ∷ ps) h = (all_of (IfKept (Follows p)) ps (λ q j k e. absurd (h.0 k)), none_follow ps h.1)

all_after : (p : Place) (ps : List Place) (a m b : ℕ) → IfKept (Between a m) p → AllByRecursion (IfKept (Between m b)) ps
    → AllByRecursion (IfKept (Follows p)) ps
all_after p [] a m b h s = tt
all_after p (q ∷ ps) a m b h s = (
  λ j k e. let before = (h k).1 in let after = (s.0 j).0 in omega (arith, before, after),
  all_after p ps a m b h s.1,
)

follow_join : (xs ys : List Place) (a m b : ℕ) → AllFollow xs → AllFollow ys → AllByRecursion (IfKept (Between a m)) xs
    → AllByRecursion (IfKept (Between m b)) ys → AllFollow (xs ++ ys)
follow_join [] ys a m b f g h s = g
follow_join (x ∷ xs) ys a m b f g h s =
    (each_join (IfKept (Follows x)) xs ys f.0 (all_after x ys a m b h.0 s), follow_join xs ys a m b f.1 g h.1 s)

-- the kept parents of places below are this one, or nodes with greater numbers
abbrev pub Under : ℕ → ℕ → Place → Type 0
Under parent n q = (q.parent ≡ parent) ⊎ (n < q.parent)

under_more : (parent m n : ℕ) (q : Place) → n < m → Under m n q → Under parent n q
under_more parent m n q lt (inl e) = inr (subst (λ (k : ℕ). n < k) (sym e) lt)
under_more parent m n q lt (inr g) = inr g

all_under_more : (parent m n : ℕ) (ps : List Place) → n < m → AllByRecursion (Under m n) ps → AllByRecursion (Under parent n) ps
all_under_more parent m n [] lt h = tt
all_under_more parent m n (p ∷ ps) lt h = (under_more parent m n p lt h.0, all_under_more parent m n ps lt h.1)

under_number : (parent n id : ℕ) (ps : List Place) (v : Bool) → (id == 0) ≡ v → (not (id == 0) ≡ true → n < id)
    → AllByRecursion (Under (if v then parent else id) n) ps → AllByRecursion (Under parent n) ps
under_number parent n id ps true z g h = h
under_number parent n id ps false z g h = all_under_more parent id n ps (g (ap not z)) h

mutual
  under : (n parent : ℕ) (w : Bool) (t : Tree) → AllByRecursion (IfKept (Greater n)) (placed parent w t) → AllByRecursion (Under parent n) (placed parent w t)
  under n parent w (tree l ts) g = (
    inl refl,
    under_number parent n l.id (all_placed (parent_below parent l.id) (w || is_content l.mark) ts) (l.id == 0) refl g.0
        (all_under n (parent_below parent l.id) (w || is_content l.mark) ts g.1),
  )

  pub all_under : (n parent : ℕ) (w : Bool) (ts : Trees) → AllByRecursion (IfKept (Greater n)) (all_placed parent w ts)
      → AllByRecursion (Under parent n) (all_placed parent w ts)
  all_under n parent w none g = tt
  all_under n parent w (more t ts) g =
      let s = each_split (IfKept (Greater n)) (placed parent w t) (all_placed parent w ts) g in
      each_join (Under parent n) (placed parent w t) (all_placed parent w ts) (under n parent w t s.0) (all_under n parent w ts s.1)

-- no place below a kept one has the kept parent of this one
apart : (p : Place) (n : ℕ) (ps : List Place) → p.parent < n → AllByRecursion (Under n n) ps → AllByRecursion (IfKept (Follows p)) ps
apart p n [] lt h = tt
apart p n (q ∷ ps) lt h = (λ j k e. absurd (other q h.0 e), apart p n ps lt h.1)
  where
    other : (q : Place) → Under n n q → p.parent ≡ q.parent → ⊥
    other q (inl u) e = omega (arith, lt, u, e)
    other q (inr u) e = omega (arith, lt, u, e)

itself_follows : (parent : ℕ) (w : Bool) (l : Label) (ts : Trees) (v : Bool) → (l.id == 0) ≡ v → (not (l.id == 0) ≡ true → parent < l.id)
    → (not (l.id == 0) ≡ true → AllByRecursion (IfKept (Greater l.id)) (all_placed (if v then parent else l.id) (w || is_content l.mark) ts))
    → AllByRecursion (IfKept (Follows (record { node = tree l ts; parent = parent; in_content = w })))
    (all_placed (if v then parent else l.id) (w || is_content l.mark) ts)
itself_follows parent w l ts true z g i =
    all_of (IfKept (Follows (record { node = tree l ts; parent = parent; in_content = w }))) (all_placed parent (w || is_content l.mark) ts)
    (λ q j k e. absurd (true≢false (sym k ∙ ap not z)))
itself_follows parent w l ts false z g i =
    apart (record { node = tree l ts; parent = parent; in_content = w }) l.id (all_placed l.id (w || is_content l.mark) ts) (g (ap not z))
    (all_under l.id l.id (w || is_content l.mark) ts (i (ap not z)))

-- below a node all are greater than itself, if it has a number, and else than the node that holds it
greater_below : (parent id : ℕ) (v : Bool) (ps : List Place) → (id == 0) ≡ v → AllByRecursion (IfKept (Greater parent)) ps
    → (not (id == 0) ≡ true → AllByRecursion (IfKept (Greater id)) ps) → AllByRecursion (IfKept (Greater (if v then parent else id))) ps
greater_below parent id true ps z g i = g
greater_below parent id false ps z g i = i (ap not z)

mutual
  follow : (parent : ℕ) (w : Bool) (t : Tree) → AllByRecursion (IfKept (Greater parent)) (placed parent w t) → InNumber (placed parent w t)
      → Tiled t → LeavesAreBare t → AllFollow (placed parent w t)
  follow parent w (tree l ts) g i tiled bare = (
    itself_follows parent w l ts (l.id == 0) refl g.0 i.0,
    through (is_leaf l.kind) l.ranges ts (AllFollow (all_placed (parent_below parent l.id) (w || is_content l.mark) ts)) tiled
        (λ x. none_follow (all_placed (parent_below parent l.id) (w || is_content l.mark) ts)
        (none_kept_of (λ q. ⊥) (parent_below parent l.id) (w || is_content l.mark) ts (bare.0 x)))
        (λ x y. all_follow (parent_below parent l.id) (w || is_content l.mark) ts (inside_start l.ranges) (inside_stop l.ranges)
        (greater_below parent l.id (l.id == 0) (all_placed (parent_below parent l.id) (w || is_content l.mark) ts) refl g.1 i.0) i.1 y bare.1),
  )

  all_follow : (parent : ℕ) (w : Bool) (ts : Trees) (a b : ℕ) → AllByRecursion (IfKept (Greater parent)) (all_placed parent w ts)
      → InNumber (all_placed parent w ts) → TiledFrom ts a b → AllLeavesAreBare ts → AllFollow (all_placed parent w ts)
  all_follow parent w none a b g i tiled bare = tt
  all_follow parent w (more t ts) a b g i tiled bare =
      let s = each_split (IfKept (Greater parent)) (placed parent w t) (all_placed parent w ts) g in
      let n = number_split (placed parent w t) (all_placed parent w ts) i in
      follow_join (placed parent w t) (all_placed parent w ts) (start_at t) (end_at t) b
      (follow parent w t s.0 n.0 tiled.1 bare.0) (all_follow parent w ts (end_at t) b s.1 n.1 tiled.2 bare.1)
      (bounded parent w t (start_at t) (end_at t) (omega arith) (omega arith) tiled.1 bare.0)
      (all_bounded parent w ts (end_at t) b (end_at t) b (omega arith) (omega arith) tiled.2 bare.1)

-- two that are found by their numbers
pub kept_found : (n : ℕ) (q : Place) → n ≢ 0 → number q ≡ n → is_kept q ≡ true
kept_found n q z e = not_zero_kept (number q) (λ x. z (sym e ∙ x))

ordered : (ps : List Place) → InNumber ps → AllFollow ps → (m n : ℕ) (p q : Place) → m ≢ 0 → m < n → numbered m ps ≡ Some p → numbered n ps ≡ Some q
    → p.parent ≡ q.parent → end_at p.node ≤ start_at q.node
ordered [] i h m n p q z lt e f g = absurd (cc)
ordered (r ∷ ps) i h m n p q z lt e f g =
    by (number r == m) (number r == n) refl refl e f (λ x y. ordered ps i.1 h.1 m n p q z lt x y g)
  where
    nz : n ≢ 0
    nz x = omega (arith, lt, x)

    by : (v w : Bool) → (number r == m) ≡ v → (number r == n) ≡ w → (if v then Some r else numbered m ps) ≡ Some p
        → (if w then Some r else numbered n ps) ≡ Some q
        → (numbered m ps ≡ Some p → numbered n ps ≡ Some q → end_at p.node ≤ start_at q.node) → end_at p.node ≤ start_at q.node
    by true true a b e f k = let c = same_by (number r) m a in let d = same_by (number r) n b in absurd (omega (arith, c, d, lt))
    by true false a b e f k =
        let s : r ≡ p = same_place r p e in
        let o = found_has (IfKept (Follows r)) n q ps h.0 f in
        subst (λ (x : Place). end_at x.node ≤ start_at q.node) s
        (o.0 (kept_found n q nz o.1) (kept_found m r z (same_by (number r) m a)) (ap (λ (x : Place). x.parent) s ∙ g))
    by false true a b e f k =
        let o = found_has (IfKept (Greater (number r))) m p ps (i.0 (kept_found n r nz (same_by (number r) n b))) e in
        let less = o.0 (kept_found m p z o.1) in
        let c = same_by (number r) n b in
        let d = o.1 in absurd (omega (arith, less, c, d, lt))
    by false false a b e f k = k e f

-- ---- what is in each

-- The numbers of these nodes rise, those of the ones that have one.
abbrev pub Rising : ℕ → Trees → Type 0
Rising k none = Unit {0}
Rising k (more t ts) = (((label t).id ≡ 0) × Rising k ts) ⊎ ((k < (label t).id) × Rising (label t).id ts)

-- The page finds a node that has a number by it, under this parent; and so it finds what it holds, whose numbers rise.
abbrev mutual
  pub Stands : Page → ℕ → Tree → Type 0
  Stands page parent (tree l ts) =
      (l.id ≢ 0 → (w : Bool) × (page l.id ≡ Some (record { node = tree l ts; parent = parent; in_content = w })))
      × (Rising 0 ts × AllStand page (parent_below parent l.id) ts)

  pub AllStand : Page → ℕ → Trees → Type 0
  AllStand page parent none = Unit {0}
  AllStand page parent (more t ts) = Stands page parent t × AllStand page parent ts

rising_by : (k : ℕ) (w : Bool) (l : Label) (us ts : Trees) (v : Bool) → (l.id == 0) ≡ v → (not (l.id == 0) ≡ true → k < l.id)
    → (l.id ≡ 0 → Rising k ts) → (not (l.id == 0) ≡ true → Rising l.id ts) → Rising k (more (tree l us) ts)
rising_by k w l us ts true z g a b = let e = zero_of l.id (ap not z) in inl (e, a e)
rising_by k w l us ts false z g a b = inr (g (ap not z), b (ap not z))

rising : (k parent : ℕ) (w : Bool) (ts : Trees) → AllByRecursion (IfKept (Greater k)) (all_placed parent w ts) → InNumber (all_placed parent w ts)
    → Rising k ts
rising k parent w none g i = tt
rising k parent w (more (tree l us) ts) g i =
    let s = each_split (IfKept (Greater k)) (placed parent w (tree l us)) (all_placed parent w ts) g in
    let n = number_split (placed parent w (tree l us)) (all_placed parent w ts) i in
    rising_by k w l us ts (l.id == 0) refl g.0
    (λ z. rising k parent w ts s.1 n.1)
    (λ z. rising l.id parent w ts
    (each_split (IfKept (Greater l.id)) (all_placed (parent_below parent l.id) (w || is_content l.mark) us) (all_placed parent w ts) (i.0 z)).1 n.1)

pub positive : (n : ℕ) → n ≢ 0 → 0 < n
positive zero z = absurd (z refl)
positive (suc n) z = omega arith

all_positive : (ps : List Place) → AllByRecursion (IfKept (Greater 0)) ps
all_positive ps = all_of (IfKept (Greater 0)) ps (λ q k. positive (number q) (kept_not_zero (number q) k))

mutual
  pub stands : (page : Page) (parent : ℕ) (w : Bool) (t : Tree) → AllByRecursion (Itself page) (placed parent w t) → InNumber (placed parent w t)
      → Stands page parent t
  stands page parent w (tree l ts) h i = (
    λ z. (w, h.0 (not_zero_kept l.id z)),
    (
      rising 0 (parent_below parent l.id) (w || is_content l.mark) ts (all_positive (all_placed (parent_below parent l.id) (w || is_content l.mark) ts)) i.1,
      all_stand page (parent_below parent l.id) (w || is_content l.mark) ts h.1 i.1,
    ),
  )

  all_stand : (page : Page) (parent : ℕ) (w : Bool) (ts : Trees) → AllByRecursion (Itself page) (all_placed parent w ts) → InNumber (all_placed parent w ts)
      → AllStand page parent ts
  all_stand page parent w none h i = tt
  all_stand page parent w (more t ts) h i =
      let s = each_split (Itself page) (placed parent w t) (all_placed parent w ts) h in
      let n = number_split (placed parent w t) (all_placed parent w ts) i in
      (stands page parent w t s.0 n.0, all_stand page parent w ts s.1 n.1)

pub record Known (page : Page) (q : Place) : Type 0 where
  pub tiled : Tiled q.node
  pub stands : Stands page q.parent q.node

mutual
  knows : (page : Page) (parent : ℕ) (w : Bool) (t : Tree) → AllByRecursion (Itself page) (placed parent w t) → InNumber (placed parent w t) → Tiled t
      → LeavesAreBare t → AllByRecursion (IfKept (Known page)) (placed parent w t)
  knows page parent w (tree l ts) h i tiled bare = (
    λ k. record { tiled = tiled; stands = stands page parent w (tree l ts) h i },
    through (is_leaf l.kind) l.ranges ts (AllByRecursion (IfKept (Known page)) (all_placed (parent_below parent l.id) (w || is_content l.mark) ts)) tiled
        (λ x. none_kept_of (Known page) (parent_below parent l.id) (w || is_content l.mark) ts (bare.0 x))
        (λ x y. all_known page (parent_below parent l.id) (w || is_content l.mark) ts (inside_start l.ranges) (inside_stop l.ranges) h.1 i.1 y bare.1),
  )

  all_known : (page : Page) (parent : ℕ) (w : Bool) (ts : Trees) (a b : ℕ) → AllByRecursion (Itself page) (all_placed parent w ts)
      → InNumber (all_placed parent w ts) → TiledFrom ts a b → AllLeavesAreBare ts
      → AllByRecursion (IfKept (Known page)) (all_placed parent w ts)
  all_known page parent w none a b h i tiled bare = tt
  all_known page parent w (more t ts) a b h i tiled bare =
      let s = each_split (Itself page) (placed parent w t) (all_placed parent w ts) h in
      let n = number_split (placed parent w t) (all_placed parent w ts) i in
      each_join (IfKept (Known page)) (placed parent w t) (all_placed parent w ts)
      (knows page parent w t s.0 n.0 tiled.1 bare.0) (all_known page parent w ts (end_at t) b s.1 n.1 tiled.2 bare.1)

-- ---- a page

-- what is said of its nodes, by their numbers
pub record Sound (page : Page) : Type 0 where
  pub itself : (n : ℕ) (q : Place) → page n ≡ Some q → (label q.node).id ≡ n
  pub lies : (n : ℕ) (q r : Place) → n ≢ 0 → page n ≡ Some q → page q.parent ≡ Some r → Within r.node q.node
  pub ordered : (m n : ℕ) (q r : Place) → m ≢ 0 → m < n → page m ≡ Some q → page n ≡ Some r → q.parent ≡ r.parent → end_at q.node ≤ start_at r.node
  pub known : (n : ℕ) (q : Place) → n ≢ 0 → page n ≡ Some q → Known page q

below_root : (page : Page) (l : Label) (ts : Trees) (q : Place) → l.id ≡ 0 → page 0 ≡ Some q → q.node ≡ tree l ts → AllByRecursion (Itself page) (placed 0 false (tree l ts))
    → Tiled (tree l ts) → LeavesAreBare (tree l ts) → AllByRecursion (IfKept (IsIn page)) (placed 0 false (tree l ts))
below_root page l ts q z e f h tiled bare = (
  λ k. absurd (kept_not_zero l.id k z),
  through (is_leaf l.kind) l.ranges ts (AllByRecursion (IfKept (IsIn page)) (all_placed (parent_below 0 l.id) (is_content l.mark) ts)) tiled
      (λ x. none_kept_of (IsIn page) (parent_below 0 l.id) (is_content l.mark) ts (bare.0 x))
      (λ x y. all_lie page (parent_below 0 l.id) (is_content l.mark) ts q (inside_start l.ranges) (inside_stop l.ranges) h.1
      (ap (λ n. page (parent_below 0 n)) z ∙ e)
      (let same = ap (λ (t : Tree). inside_start (label t).ranges) f in omega (arith, same))
      (let same = ap (λ (t : Tree). inside_stop (label t).ranges) f in omega (arith, same)) y bare.1),
)

root_in : (t : Tree) → (label t).id ≡ 0 → AllByRecursion (Itself (page_of t)) (places t) → Tiled t → LeavesAreBare t
    → AllByRecursion (IfKept (IsIn (page_of t))) (places t)
root_in (tree l ts) z h tiled bare =
    below_root (page_of (tree l ts)) l ts (record { node = tree l ts; parent = 0; in_content = false }) z (found_root (tree l ts) z) refl h tiled bare

pub root_number : (t : Tree) → IsWholePage t → (label t).id ≡ 0
root_number t w = (all_page_numbers t w.body w.numbered).root

root_by : (page : Page) (l : Label) (ts : Trees) → l.id ≡ 0 → Stands page 0 (tree l ts) → Rising 0 ts × AllStand page l.id ts
root_by page l ts z h = (h.1.0, subst (λ (n : ℕ). AllStand page n ts) (ap (parent_below 0) z ∙ sym z) h.1.1)

-- what the root holds
pub root_holds : (t : Tree) → IsWholePage t → Rising 0 (children t) × AllStand (page_of t) (label t).id (children t)
root_holds (tree l ts) w =
    let up : Increasing (map number (filter is_kept (places (tree l ts)))) = increasing (tree l ts) w.body w.numbered in
    root_by (page_of (tree l ts)) l ts (root_number (tree l ts) w)
    (stands (page_of (tree l ts)) 0 false (tree l ts) (each_itself (places (tree l ts)) up) (in_number (places (tree l ts)) up))

pub sound : (t : Tree) → IsWholePage t → Sound (page_of t)
sound t w =
    let up : Increasing (map number (filter is_kept (places t))) = increasing t w.body w.numbered in
    let h : AllByRecursion (Itself (page_of t)) (places t) = each_itself (places t) up in
    let i : InNumber (places t) = in_number (places t) up in
    let inner = root_in t (root_number t w) h w.tiled w.leaves in
    let after = follow 0 false t (all_positive (places t)) i w.tiled w.leaves in
    let all = knows (page_of t) 0 false t h i w.tiled w.leaves in
    record {
      itself = λ n q e. (found_has (λ (p : Place). Unit {0}) n q (places t) (all_of (λ (p : Place). Unit {0}) (places t) (λ p. tt)) e).1;
      lies = λ n q r z e f. let o = found_has (IfKept (IsIn (page_of t))) n q (places t) inner e in o.0 (kept_found n q z o.1) r f;
      ordered = λ m n q r z lt e f g. ordered (places t) i after m n q r z lt e f g;
      known = λ n q z e. let o = found_has (IfKept (Known (page_of t))) n q (places t) all e in o.0 (kept_found n q z o.1);
    }
