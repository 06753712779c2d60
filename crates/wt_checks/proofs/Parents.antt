-- No node of a page with a number stands in a group.
use Rattle.std.proofs.Common.{◌≡◌, ℕ, Bool, true, false, List, [], ◌∷◌, ◌++◌, map, refl, sym, ap, ◌∙◌, subst}
use Rattle.std.specs.Prelude.{◌==◌, ◌||◌, not, if◌then◌else◌, filter, Option, Some, None}
use Rattle.std.specs.List.{AllByRecursion}
use Rattle.wt_tree.specs.Kinds.{is_numbered}
use Rattle.wt_tree.specs.Tiling.{is_group, ids, ids_of_all, others, others_of_all}
use Rattle.wt_tree.specs.Tree.{Tree, tree, Trees, none, more, label}
use Rattle.wt_checks.specs.Ids.{has_parent}
use Rattle.wt_checks.specs.Kept.{InOrder}
use Rattle.wt_checks.specs.Places.{Place, placed, all_placed, places, number, kind_at, is_kept, is_content, Page, page_of, parent_below}
use Rattle.wt_checks.specs.PutBack.{IsOneBody}
use Rattle.wt_checks.proofs.Found.{Itself, each_itself, found_has, body_no_group, PageNodes}
use Rattle.wt_checks.proofs.InOrder.{Increasing, Right, all_right, kept_not_zero, same_by}
use Rattle.wt_checks.proofs.Lookups.{each_split, each_join, AllZero}

-- what the page has for this number is no group
abbrev pub NoGroup : Page → ℕ → Type 0
NoGroup page n = (q : Place) → page n ≡ Some q → is_group (kind_at q) ≡ false

abbrev pub ParentFree : Page → Place → Type 0
ParentFree page p = is_kept p ≡ true → NoGroup page p.parent

mutual
  in_group : (page : Page) (parent : ℕ) (within : Bool) (t : Tree) → AllZero (ids t) → AllByRecursion (ParentFree page) (placed parent within t)
  in_group page parent within (tree l ts) z = (
    λ k. absurd (kept_not_zero l.id k z.0),
    all_in_group page (parent_below parent l.id) (within || is_content l.mark) ts z.1,
  )

  all_in_group : (page : Page) (parent : ℕ) (within : Bool) (ts : Trees) → AllZero (ids_of_all ts)
      → AllByRecursion (ParentFree page) (all_placed parent within ts)
  all_in_group page parent within none z = tt
  all_in_group page parent within (more t ts) z =
      let y = each_split (λ n. n ≡ 0) (ids t) (ids_of_all ts) z in
      each_join (ParentFree page) (placed parent within t) (all_placed parent within ts) (in_group page parent within t y.0)
      (all_in_group page parent within ts y.1)

inner_zero : (n g : Bool) (id : ℕ) (ts : Trees) → AllZero ((if n then [] else id ∷ []) ++ (if g then ids_of_all ts else others_of_all ts))
    → AllZero (if g then ids_of_all ts else others_of_all ts)
inner_zero true g id ts z = z
inner_zero false g id ts z = z.1

below_free : (b : Bool) (page : Page) (parent id : ℕ) → (not b ≡ true → NoGroup page id) → NoGroup page parent → NoGroup page (if b then parent else id)
below_free true page parent id f h = h
below_free false page parent id f h = f refl

below_by : (g : Bool) (page : Page) (parent : ℕ) (within : Bool) (ts : Trees) → AllZero (if g then ids_of_all ts else others_of_all ts)
    → (g ≡ false → AllZero (others_of_all ts) → AllByRecursion (ParentFree page) (all_placed parent within ts))
    → AllByRecursion (ParentFree page) (all_placed parent within ts)
below_by true page parent within ts z f = all_in_group page parent within ts z
below_by false page parent within ts z f = f refl z

itself_free : (page : Page) (p : Place) → is_group (kind_at p) ≡ false → page (number p) ≡ Some p → NoGroup page (number p)
itself_free page p g e q s = let h : Some p ≡ Some q = sym e ∙ s in let d : p ≡ q = cc in ap (λ r. is_group (kind_at r)) (sym d) ∙ g

mutual
  free_below : (page : Page) (parent : ℕ) (within : Bool) (t : Tree) → NoGroup page parent → AllByRecursion (Itself page) (placed parent within t)
      → AllZero (others t) → AllByRecursion (ParentFree page) (placed parent within t)
  free_below page parent within (tree l ts) h s z = (
    λ k. h,
    below_by (is_group l.kind) page (parent_below parent l.id) (within || is_content l.mark) ts (inner_zero (is_numbered l.kind) (is_group l.kind) l.id ts z)
        (λ g y. all_free_below page (parent_below parent l.id) (within || is_content l.mark) ts
        (below_free (l.id == 0) page parent l.id
        (λ k. itself_free page (record { node = tree l ts; parent = parent; in_content = within }) g (s.0 k)) h) s.1 y),
  )

  all_free_below : (page : Page) (parent : ℕ) (within : Bool) (ts : Trees) → NoGroup page parent → AllByRecursion (Itself page) (all_placed parent within ts)
      → AllZero (others_of_all ts) → AllByRecursion (ParentFree page) (all_placed parent within ts)
  all_free_below page parent within none h s z = tt
  all_free_below page parent within (more t ts) h s z =
      let a = each_split (Itself page) (placed parent within t) (all_placed parent within ts) s in
      let y = each_split (λ n. n ≡ 0) (others t) (others_of_all ts) z in
      each_join (ParentFree page) (placed parent within t) (all_placed parent within ts) (free_below page parent within t h a.0 y.0)
      (all_free_below page parent within ts h a.1 y.1)

-- ---- the same of the edited tree, whose kept nodes have the page's parents

parent_of : (page : Page) (n : ℕ) (o : Option Place) → has_parent n o ≡ true → ((q : Place) → o ≡ Some q → NoGroup page q.parent) → NoGroup page n
parent_of page n None e f = absurd (cc)
parent_of page n (Some q) e f = subst (NoGroup page) (same_by q.parent n e) (f q refl)

free_places : (page : Page) (ps : List Place) → AllByRecursion (Right page) ps
    → ((n : ℕ) (q : Place) → page n ≡ Some q → ParentFree page q × (number q ≡ n)) → AllByRecursion (ParentFree page) ps
free_places page [] r f = tt
free_places page (p ∷ ps) r f = (
  λ k. parent_of page p.parent (page (number p)) (r.0 k)
      (λ q e. let h = f (number p) q e in h.0 (ap (λ n. not (n == 0)) h.1 ∙ k)),
  free_places page ps r.1 f,
)

root_group : (page : Tree) (q : Place) → IsOneBody page → PageNodes page → page_of page 0 ≡ Some q → is_group (kind_at q) ≡ false
root_group page q b n e =
    let h : Some (record { node = page; parent = 0; in_content = false }) ≡ Some q = sym n.root ∙ e in
    let p : Place = record { node = page; parent = 0; in_content = false } in
    let d : p ≡ q = cc in
    ap (λ r. is_group (kind_at r)) (sym d) ∙ body_no_group (label page).kind b.root

pub edited_free : (page edited : Tree) → IsOneBody page → PageNodes page → AllZero (others page)
    → Increasing (map number (filter is_kept (places page))) → InOrder (places page) (places edited)
    → AllByRecursion (ParentFree (page_of page)) (places edited)
edited_free page edited b n z inc o =
    let root : NoGroup (page_of page) 0 = λ q e. root_group page q b n e in
    let all = free_below (page_of page) 0 false page root (each_itself (places page) inc) z in
    free_places (page_of page) (places edited) (all_right (places page) (places edited) (places edited) inc o (λ m k h. h))
    (λ m q e. found_has (ParentFree (page_of page)) m q (places page) all e)
