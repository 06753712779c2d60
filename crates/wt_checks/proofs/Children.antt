-- Each kept node of a page is a child of its kept parent, and so the page's node for a kept node of the
-- edited tree is a child of the page's node for its kept parent.
use Rattle.std.proofs.Common.{◌≡◌, ◌≢◌, ℕ, Bool, true, false, List, [], ◌∷◌, map, refl, ap, ◌∙◌, subst, inl, inr, ◌⊎◌}
use Rattle.std.specs.Prelude.{◌==◌, ◌||◌, not, if◌then◌else◌, filter, Option, Some, None}
use Rattle.std.specs.List.{AllByRecursion}
use Rattle.wt_tree.specs.declared.kind.Kind.{Kind}
use Rattle.wt_tree.specs.declared.kind.Kind.TheVariants as kind
use Rattle.wt_tree.specs.Kinds.{is_numbered, writing}
use Rattle.wt_tree.specs.Tiling.{is_group, ids, ids_of_all, numbers, numbers_of_all, others, others_of_all}
use Rattle.wt_tree.specs.Tree.{Tree, tree, Trees, none, more, label, listed}
use Rattle.wt_checks.specs.Ids.{has_parent}
use Rattle.wt_checks.specs.Kept.{children, InOrder}
use Rattle.wt_checks.specs.Places.{Place, placed, all_placed, places, number, kind_at, is_kept, is_body, is_content, Page, page_of, parent_below}
use Rattle.wt_checks.specs.PutBack.{is_frame, has_frame, have_frame, IsOneBody, TextsHoldNoNumber}
use Rattle.wt_checks.specs.Tokens.{is_text}
use Rattle.wt_checks.proofs.Found.{Itself, each_itself, found_has, Inner, inner_by, own_by, body_no_group}
use Rattle.wt_checks.proofs.InOrder.{Increasing, Right, all_right, kept_not_zero, not_zero_kept, same_by}
use Rattle.wt_checks.proofs.Lookups.{each_split, each_join, AllZero, NoZero, PageNumbers}
use Rattle.wt_checks.proofs.Repeated.{or_false}

-- one of these trees
abbrev pub Among : Tree → Trees → Type 0
Among t none = ⊥
Among t (more u us) = (u ≡ t) ⊎ Among t us

pub of_among : (P : Tree → Type 0) (t : Tree) (ts : Trees) → Among t ts → AllByRecursion P (listed ts) → P t
of_among P t none m h = absurd m
of_among P t (more u us) (inl e) h = subst P e h.0
of_among P t (more u us) (inr m) h = of_among P t us m h.1

-- the node is a child of the page's node for this number
record IsIn (page : Page) (n : ℕ) (t : Tree) : Type 0 where
  round : Place
  there : page n ≡ Some round
  among : Among t (children round.node)

abbrev IsChild : Page → Place → Type 0
IsChild page p = is_kept p ≡ true → IsIn page p.parent p.node

-- ---- in the page

-- what has no number by its kind holds none
abbrev pub UnnumberedFree : Place → Type 0
UnnumberedFree p = is_numbered (kind_at p) ≡ false → AllZero (ids_of_all (children p.node))

-- in a group nothing has a number
mutual
  in_group : (page : Page) (parent : ℕ) (within : Bool) (t : Tree) → AllZero (ids t) → AllByRecursion (IsChild page) (placed parent within t)
  in_group page parent within (tree l ts) z = (
    λ k. absurd (kept_not_zero l.id k z.0),
    all_in_group page (parent_below parent l.id) (within || is_content l.mark) ts z.1,
  )

  all_in_group : (page : Page) (parent : ℕ) (within : Bool) (ts : Trees) → AllZero (ids_of_all ts) → AllByRecursion (IsChild page) (all_placed parent within ts)
  all_in_group page parent within none z = tt
  all_in_group page parent within (more t ts) z =
      let y = each_split (λ n. n ≡ 0) (ids t) (ids_of_all ts) z in
      each_join (IsChild page) (placed parent within t) (all_placed parent within ts) (in_group page parent within t y.0)
      (all_in_group page parent within ts y.1)

below_kept : (parent id : ℕ) → id ≢ 0 → parent_below parent id ≡ id
below_kept parent id z = by_zero (id == 0) (not_zero_kept id z)
  where
    by_zero : (b : Bool) → not b ≡ true → (if b then parent else id) ≡ id
    by_zero true h = absurd (cc)
    by_zero false h = refl

below_by : (g n : Bool) (page : Page) (parent : ℕ) (within : Bool) (id : ℕ) (p : Place) (ts : Trees) → Inner g ts
    → (n ≡ true → id ≢ 0) → (id ≢ 0 → page id ≡ Some p) → (n ≡ false → AllZero (ids_of_all ts))
    → (page (parent_below parent id) ≡ Some p → AllZero (others_of_all ts) → NoZero (numbers_of_all ts)
    → AllByRecursion (IsChild page) (all_placed (parent_below parent id) within ts))
    → AllByRecursion (IsChild page) (all_placed (parent_below parent id) within ts)
below_by true n page parent within id p ts i z f e h = all_in_group page (parent_below parent id) within ts (i.in_group refl)
below_by false true page parent within id p ts i z f e h =
    let w = i.outside refl in
    h (ap page (below_kept parent id (z refl)) ∙ f (z refl)) w.0 w.1
below_by false false page parent within id p ts i z f e h =
    all_in_group page (parent_below parent id) within ts (e refl)

mutual
  child_below : (page : Page) (parent : ℕ) (within : Bool) (q : Place) (t : Tree) → page parent ≡ Some q → Among t (children q.node)
      → AllByRecursion (Itself page) (placed parent within t) → AllByRecursion UnnumberedFree (placed parent within t)
      → AllZero (others t) → NoZero (numbers t) → AllByRecursion (IsChild page) (placed parent within t)
  child_below page parent within q (tree l ts) e m s r z o =
      let p : Place = record { node = tree l ts; parent = parent; in_content = within } in (
        λ k. record { round = q; there = e; among = m },
        below_by (is_group l.kind) (is_numbered l.kind) page parent (within || is_content l.mark) l.id p ts
            (inner_by (is_numbered l.kind) (is_group l.kind) l.id ts z o)
            (own_by (is_numbered l.kind) l.id (if is_group l.kind then [] else numbers_of_all ts) o)
            (λ k. s.0 (not_zero_kept l.id k))
            r.0
            (λ f y w. all_child_below page (parent_below parent l.id) (within || is_content l.mark) p ts f (λ t i. i) s.1 r.1 y w),
      )

  all_child_below : (page : Page) (parent : ℕ) (within : Bool) (q : Place) (ts : Trees) → page parent ≡ Some q
      → ((t : Tree) → Among t ts → Among t (children q.node))
      → AllByRecursion (Itself page) (all_placed parent within ts) → AllByRecursion UnnumberedFree (all_placed parent within ts)
      → AllZero (others_of_all ts) → NoZero (numbers_of_all ts) → AllByRecursion (IsChild page) (all_placed parent within ts)
  all_child_below page parent within q none e m s r z o = tt
  all_child_below page parent within q (more t ts) e m s r z o =
      let a = each_split (Itself page) (placed parent within t) (all_placed parent within ts) s in
      let d = each_split UnnumberedFree (placed parent within t) (all_placed parent within ts) r in
      let y = each_split (λ n. n ≡ 0) (others t) (others_of_all ts) z in
      let p = each_split (λ n. n ≢ 0) (numbers t) (numbers_of_all ts) o in
      each_join (IsChild page) (placed parent within t) (all_placed parent within ts)
      (child_below page parent within q t e (m t (inl refl)) a.0 d.0 y.0 p.0)
      (all_child_below page parent within q ts e (λ u i. m u (inr i)) a.1 d.1 y.1 p.1)

-- the places below the root
abbrev pub below_root : Tree → List Place
below_root (tree l ts) = all_placed (parent_below 0 l.id) (is_content l.mark) ts

root_below : (page : Page) (t : Tree) → (label t).id ≡ 0 → is_body (label t).kind ≡ true
    → page 0 ≡ Some (record { node = t; parent = 0; in_content = false }) → AllByRecursion (Itself page) (places t)
    → AllByRecursion UnnumberedFree (below_root t) → AllZero (others t) → NoZero (numbers t) → AllByRecursion (IsChild page) (places t)
root_below page (tree l ts) n b e s r z o =
    let i = inner_by (is_numbered l.kind) (is_group l.kind) l.id ts z o in
    let w = i.outside (body_no_group l.kind b) in (
      λ k. absurd (kept_not_zero l.id k n),
      all_child_below page (parent_below 0 l.id) (is_content l.mark) (record { node = tree l ts; parent = 0; in_content = false }) ts
          (ap (λ k. page (parent_below 0 k)) n ∙ e) (λ t i. i) s.1 r w.0 w.1,
    )

-- what has no number by its kind is a body, a section or a text
pub unnumbered_text : (k : Kind) → is_numbered k ≡ false → is_frame k ≡ false → is_text (writing k) ≡ true
unnumbered_text kind.Body n b = absurd (cc)
unnumbered_text (kind.Section s) n b = absurd (cc)
unnumbered_text kind.Sep n b = refl
unnumbered_text kind.Text n b = refl
unnumbered_text k n b = absurd (cc)

-- a text holds no number
abbrev TextFree : Place → Type 0
TextFree p = is_text (writing (kind_at p)) ≡ true → AllZero (ids_of_all (children p.node))

-- below the only body, where texts hold no number
mutual
  free_below : (parent : ℕ) (within : Bool) (t : Tree) → has_frame t ≡ false → AllByRecursion TextFree (placed parent within t)
      → AllByRecursion UnnumberedFree (placed parent within t)
  free_below parent within (tree l ts) b f =
      let c = or_false (is_frame l.kind) (have_frame ts) b in
      ((λ n. f.0 (unnumbered_text l.kind n c.0)), all_free_below (parent_below parent l.id) (within || is_content l.mark) ts c.1 f.1)

  all_free_below : (parent : ℕ) (within : Bool) (ts : Trees) → have_frame ts ≡ false → AllByRecursion TextFree (all_placed parent within ts)
      → AllByRecursion UnnumberedFree (all_placed parent within ts)
  all_free_below parent within none b f = tt
  all_free_below parent within (more t ts) b f =
      let c = or_false (has_frame t) (have_frame ts) b in
      let s = each_split TextFree (placed parent within t) (all_placed parent within ts) f in
      each_join UnnumberedFree (placed parent within t) (all_placed parent within ts) (free_below parent within t c.0 s.0)
      (all_free_below parent within ts c.1 s.1)

pub free_root : (page : Tree) → IsOneBody page → TextsHoldNoNumber page → AllByRecursion UnnumberedFree (below_root page)
free_root (tree l ts) b f = all_free_below (parent_below 0 l.id) (is_content l.mark) ts b.alone f.1

-- ---- in the edited tree

-- the page's node for the number of this place, which is a child of the page's node for its kept parent
pub record ChildOf (page : Page) (p : Place) : Type 0 where
  pub now : Place
  pub there : page (number p) ≡ Some now
  pub round : Place
  pub over : page p.parent ≡ Some round
  pub among : Among now.node (children round.node)

abbrev pub StandsIn : Page → Place → Type 0
StandsIn page p = is_kept p ≡ true → ChildOf page p

parent_of : (page : Page) (p : Place) (o : Option Place) → page (number p) ≡ o → has_parent p.parent o ≡ true
    → ((q : Place) → o ≡ Some q → IsIn page q.parent q.node) → ChildOf page p
parent_of page p None s e f = absurd (cc)
parent_of page p (Some q) s e f =
    let i = subst (λ (n : ℕ). IsIn page n q.node) (same_by q.parent p.parent e) (f q refl) in
    record { now = q; there = s; round = i.round; over = i.there; among = i.among }

stand_in : (page : Page) (ps : List Place) → AllByRecursion (Right page) ps
    → ((n : ℕ) (q : Place) → page n ≡ Some q → IsChild page q × (number q ≡ n)) → AllByRecursion (StandsIn page) ps
stand_in page [] r f = tt
stand_in page (p ∷ ps) r f = (
  λ k. parent_of page p (page (number p)) refl (r.0 k)
      (λ q e. let h = f (number p) q e in h.0 (ap (λ n. not (n == 0)) h.1 ∙ k)),
  stand_in page ps r.1 f,
)

pub all_stand_in : (page edited : Tree) → is_body (label page).kind ≡ true → page_of page 0 ≡ Some (record { node = page; parent = 0; in_content = false })
    → PageNumbers page → Increasing (map number (filter is_kept (places page))) → AllByRecursion UnnumberedFree (below_root page)
    → InOrder (places page) (places edited) → AllByRecursion (StandsIn (page_of page)) (places edited)
all_stand_in page edited b n i inc r o =
    let all = root_below (page_of page) page i.root b n (each_itself (places page) inc) r i.unnumbered i.counted in
    stand_in (page_of page) (places edited) (all_right (places page) (places edited) (places edited) inc o (λ m k h. h))
    (λ m q e. found_has (IsChild (page_of page)) m q (places page) all e)
