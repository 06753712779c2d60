-- The numbered nodes that a node holds are some of those that the page's node holds, in their order.
use Rattle.std.proofs.Common.{◌≡◌, ◌≢◌, ◌<◌, ℕ, Bool, true, false, List, [], ◌∷◌, ◌++◌, refl, sym, ap, ◌∙◌, subst, inl, inr}
use Rattle.std.specs.Prelude.{◌==◌, ◌&&◌, ◌||◌, not, if◌then◌else◌, MatchOption, Option, Some, None}
use Rattle.std.specs.List.{AllByRecursion}
use Rattle.wt_tree.specs.declared.kind.Kind.TheVariants as kind
use Rattle.wt_tree.specs.Tiling.{InPreorder}
use Rattle.wt_tree.specs.Tree.{Tree, tree, Trees, none, more, label}
use Rattle.wt_checks.specs.Checked.{checked}
use Rattle.wt_checks.specs.Kept.{Kept, children, kept_under, IsSublist, own_numbers, ChildrenInOrder}
use Rattle.wt_checks.specs.Places.{Place, placed, all_placed, places, number, is_kept, is_content, Page, page_of, parent_below}
use Rattle.wt_checks.specs.PutBack.{IsOneBody, TextsHoldNoNumber}
use Rattle.wt_checks.proofs.Children.{Among, StandsIn, all_stand_in, free_root}
use Rattle.wt_checks.proofs.EditedIsPage.{body_is, nodes_of}
use Rattle.wt_checks.proofs.Found.{PageNodes, found_has}
use Rattle.wt_checks.proofs.InOrder.{Above, Increasing, Member, Members, sublist_of_members, sublist_increasing, under_increasing, increasing_tail, test_equal, kept_not_zero, not_zero_kept}
use Rattle.wt_checks.proofs.Lookups.{each_split, each_join, all_page_numbers}
use Rattle.wt_checks.proofs.PutBack.{PageOf}
use Rattle.wt_checks.proofs.WhatIsKept.{kept, increasing}

-- ---- parts of increasing lists

join_by : (b : Bool) (m : ℕ) (all ms ns : List ℕ) → all ≡ ms ++ ns → (if b then m ∷ all else all) ≡ (if b then m ∷ ms else ms) ++ ns
join_by true m all ms ns e = ap (λ ks. m ∷ ks) e
join_by false m all ms ns e = e

under_join : (n : ℕ) (ps qs : List Place) → kept_under n (ps ++ qs) ≡ kept_under n ps ++ kept_under n qs
under_join n [] qs = refl
under_join n (p ∷ ps) qs = join_by (is_kept p && p.parent == n) (number p) (kept_under n (ps ++ qs)) (kept_under n ps) (kept_under n qs) (under_join n ps qs)

increasing_split : (ms ns : List ℕ) → Increasing (ms ++ ns) → Increasing ms × Increasing ns
increasing_split [] ns h = (tt, h)
increasing_split (m ∷ ms) ns h =
    let r = increasing_split ms ns h.1 in
    (((each_split (λ k. m < k) ms ns h.0).0, r.0), r.1)

abbrev AllIncreasing : List Place → Type 0
AllIncreasing ps = (n : ℕ) → Increasing (kept_under n ps)

all_split : (ps qs : List Place) → AllIncreasing (ps ++ qs) → AllIncreasing ps × AllIncreasing qs
all_split ps qs h = (
  λ n. (increasing_split (kept_under n ps) (kept_under n qs) (subst Increasing (under_join n ps qs) (h n))).0,
  λ n. (increasing_split (kept_under n ps) (kept_under n qs) (subst Increasing (under_join n ps qs) (h n))).1,
)

-- ---- the numbers of children

above_by : (k t : Bool) (m i : ℕ) (ms ns : List ℕ) → t ≡ true → (Above m ms → Above m ns) → Above m (if k && t then i ∷ ms else ms)
    → Above m (if k then i ∷ ns else ns)
above_by true true m i ms ns e f h = (h.0, f h.1)
above_by true false m i ms ns e f h = absurd (cc)
above_by false t m i ms ns e f h = f h

above_children : (m parent : ℕ) (within : Bool) (ts : Trees) → Above m (kept_under parent (all_placed parent within ts)) → Above m (own_numbers ts)
above_children m parent within none h = tt
above_children m parent within (more (tree l us) ts) h =
    let inner : List Place = all_placed (parent_below parent l.id) (within || is_content l.mark) us in
    let rest : List Place = all_placed parent within ts in
    above_by (not (l.id == 0)) (parent == parent) m l.id (kept_under parent (inner ++ rest)) (own_numbers ts) (test_equal parent parent refl)
    (λ a. above_children m parent within ts
    (each_split (λ k. m < k) (kept_under parent inner) (kept_under parent rest) (subst (Above m) (under_join parent inner rest) a)).1) h

children_by : (k t : Bool) (i : ℕ) (ms ns : List ℕ) → t ≡ true → (Above i ms → Above i ns) → (Increasing ms → Increasing ns)
    → Increasing (if k && t then i ∷ ms else ms) → Increasing (if k then i ∷ ns else ns)
children_by true true i ms ns e f g h = (f h.0, g h.1)
children_by true false i ms ns e f g h = absurd (cc)
children_by false t i ms ns e f g h = g h

increasing_children : (parent : ℕ) (within : Bool) (ts : Trees) → Increasing (kept_under parent (all_placed parent within ts)) → Increasing (own_numbers ts)
increasing_children parent within none h = tt
increasing_children parent within (more (tree l us) ts) h =
    let inner : List Place = all_placed (parent_below parent l.id) (within || is_content l.mark) us in
    let rest : List Place = all_placed parent within ts in
    children_by (not (l.id == 0)) (parent == parent) l.id (kept_under parent (inner ++ rest)) (own_numbers ts) (test_equal parent parent refl)
    (λ a. above_children l.id parent within ts
    (each_split (λ k. l.id < k) (kept_under parent inner) (kept_under parent rest) (subst (Above l.id) (under_join parent inner rest) a)).1)
    (λ a. increasing_children parent within ts
    (increasing_split (kept_under parent inner) (kept_under parent rest) (subst Increasing (under_join parent inner rest) a)).1) h

abbrev Grows : Place → Type 0
Grows p = Increasing (own_numbers (children p.node))

mutual
  grows : (parent : ℕ) (within : Bool) (t : Tree) → AllIncreasing (placed parent within t) → AllByRecursion Grows (placed parent within t)
  grows parent within (tree l ts) h =
      let below : List Place = all_placed (parent_below parent l.id) (within || is_content l.mark) ts in
      let i = λ (n : ℕ). increasing_tail n (record { node = tree l ts; parent = parent; in_content = within }) below (h n) in (
        increasing_children (parent_below parent l.id) (within || is_content l.mark) ts (i (parent_below parent l.id)),
        all_grow (parent_below parent l.id) (within || is_content l.mark) ts i,
      )

  all_grow : (parent : ℕ) (within : Bool) (ts : Trees) → AllIncreasing (all_placed parent within ts) → AllByRecursion Grows (all_placed parent within ts)
  all_grow parent within none h = tt
  all_grow parent within (more t ts) h =
      let s = all_split (placed parent within t) (all_placed parent within ts) h in
      each_join Grows (placed parent within t) (all_placed parent within ts) (grows parent within t s.0) (all_grow parent within ts s.1)

-- ---- each is a child of the page's

member_by : (k : Bool) (i j : ℕ) (ns : List ℕ) → Member j ns → Member j (if k then i ∷ ns else ns)
member_by true i j ns m = inr m
member_by false i j ns m = m

member_here : (k : Bool) (i j : ℕ) (ns : List ℕ) → k ≡ true → i ≡ j → Member j (if k then i ∷ ns else ns)
member_here true i j ns e f = inl f
member_here false i j ns e f = absurd (cc)

among_member : (t : Tree) (ts : Trees) → Among t ts → (label t).id ≢ 0 → Member (label t).id (own_numbers ts)
among_member t none m z = absurd m
among_member t (more u us) (inl e) z =
    let d : (label u).id ≡ (label t).id = ap (λ x. (label x).id) e in
    member_here (not ((label u).id == 0)) (label u).id (label t).id (own_numbers us) (not_zero_kept (label u).id (λ i. z (sym d ∙ i))) d
among_member t (more u us) (inr m) z =
    member_by (not ((label u).id == 0)) (label u).id (label t).id (own_numbers us) (among_member t us m z)

members_by : (k : Bool) (i : ℕ) (ms ns : List ℕ) → (k ≡ true → Member i ns) → Members ms ns → Members (if k then i ∷ ms else ms) ns
members_by true i ms ns f h = (f refl, h)
members_by false i ms ns f h = h

child_members : (page : Page) (parent : ℕ) (within : Bool) (q : Place) (ts : Trees) → PageOf page → page parent ≡ Some q
    → AllByRecursion (StandsIn page) (all_placed parent within ts) → Members (own_numbers ts) (own_numbers (children q.node))
child_members page parent within q none H e s = tt
child_members page parent within q (more (tree l us) ts) H e s =
    let w = each_split (StandsIn page) (placed parent within (tree l us)) (all_placed parent within ts) s in
    members_by (not (l.id == 0)) l.id (own_numbers ts) (own_numbers (children q.node))
    (λ k. let i = w.0.0 k in
    let o : Some i.round ≡ Some q = sym i.over ∙ e in
    let d : i.round ≡ q = cc in
    let n : number i.now ≡ l.id = (H l.id i.now i.there).1 in
    subst (λ (m : ℕ). Member m (own_numbers (children q.node))) n
    (among_member i.now.node (children q.node) (subst (λ (r : Place). Among i.now.node (children r.node)) d i.among)
    (λ z. kept_not_zero l.id k (sym n ∙ z))))
    (child_members page parent within q ts H e w.1)

-- ---- both

abbrev PageGrows : Page → Type 0
PageGrows page = (n : ℕ) (q : Place) → page n ≡ Some q → Grows q

order_by : (page : Page) (o : Option Place) (p : Place) (n : ℕ) → page n ≡ o → Grows p → PageGrows page
    → ((q : Place) → page n ≡ Some q → Members (own_numbers (children p.node)) (own_numbers (children q.node)))
    → MatchOption o (Unit {0}) (λ q. IsSublist (own_numbers (children p.node)) (own_numbers (children q.node)))
order_by page None p n e g h f = tt
order_by page (Some q) p n e g h f =
    sublist_of_members (own_numbers (children p.node)) (own_numbers (children q.node)) g (h n q e) (f q e)

mutual
  ordered : (page : Page) (parent : ℕ) (within : Bool) (t : Tree) → PageOf page → PageGrows page → AllByRecursion Grows (placed parent within t)
      → AllByRecursion (StandsIn page) (placed parent within t) → AllByRecursion (ChildrenInOrder page) (placed parent within t)
  ordered page parent within (tree l ts) H h g s =
      let n : ℕ = parent_below parent l.id in (
        order_by page (page n) (record { node = tree l ts; parent = parent; in_content = within }) n refl g.0 h
            (λ q e. child_members page n (within || is_content l.mark) q ts H e s.1),
        all_ordered page n (within || is_content l.mark) ts H h g.1 s.1,
      )

  all_ordered : (page : Page) (parent : ℕ) (within : Bool) (ts : Trees) → PageOf page → PageGrows page → AllByRecursion Grows (all_placed parent within ts)
      → AllByRecursion (StandsIn page) (all_placed parent within ts) → AllByRecursion (ChildrenInOrder page) (all_placed parent within ts)
  all_ordered page parent within none H h g s = tt
  all_ordered page parent within (more t ts) H h g s =
      let i = each_split Grows (placed parent within t) (all_placed parent within ts) g in
      let w = each_split (StandsIn page) (placed parent within t) (all_placed parent within ts) s in
      each_join (ChildrenInOrder page) (placed parent within t) (all_placed parent within ts) (ordered page parent within t H h i.0 w.0)
      (all_ordered page parent within ts H h i.1 w.1)

pub all_in_order : (values : Bool) (page edited : Tree) → IsOneBody page → InPreorder page → TextsHoldNoNumber page → checked values page edited ≡ None
    → AllByRecursion (ChildrenInOrder (page_of page)) (places edited)
all_in_order values page edited b h r e =
    let k : (label page).kind ≡ kind.Body = body_is (label page).kind b.root in
    let a : Kept values page edited = kept values page edited k h e in
    let n : PageNodes page = nodes_of page b h in
    let inc = increasing page k h in
    let under = λ (m : ℕ). under_increasing m (places page) inc in
    let all = grows 0 false page under in
    ordered (page_of page) 0 false edited n.each (λ m q s. (found_has Grows m q (places page) all s).0)
    (grows 0 false edited (λ m. sublist_increasing (kept_under m (places edited)) (kept_under m (places page)) (a.order m) (under m)))
    (all_stand_in page edited b.root n.root (all_page_numbers page k h) inc (free_root page b r) a.order)
