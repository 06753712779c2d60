-- Marks are taken off and set node by node; and they are all that is new in the remarked tree.
use Rattle.std.proofs.Common.{◌≡◌, ℕ, Bool, true, false, List, [], ◌∷◌, ◌++◌, refl, sym, ap, ap₂, ◌∙◌}
use Rattle.std.specs.Prelude.{◌&&◌, ◌||◌, not, if◌then◌else◌, Option, Some, None}
use Rattle.wt_recut.specs.Recutting.{appended}
use Rattle.wt_tree.specs.Tiling.{is_group}
use Rattle.wt_tree.specs.Tree.{Label, Tree, tree, Trees, none, more, label}
use Rattle.wt_tree.specs.View.{view, views, label_of}
use Rattle.wt_tree.specs.declared.kind.Kind.{Kind}
use Rattle.wt_tree.specs.declared.kind.Kind.TheVariants as kind
use Rattle.wt_tree.specs.declared.kind.Mark.{Mark}
use Rattle.wt_tree.specs.declared.kind.Mark.TheVariants as marks
use Rattle.wt_tree.specs.declared.node.Node.{Node, out-Node}
use Rattle.wt_tree.proofs.Views.{view_out}
use Rattle.wt_checks.specs.Places.{Page, Place, page_of}
use Rattle.wt_checks.specs.Groups.{is_marked, has_mark, have_mark}
use Rattle.wt_checks.specs.Places.{is_body}
use Rattle.wt_checks.specs.WithoutMarks.{unmarked, all_unmarked, groups_unmarked, all_groups_unmarked}
use Rattle.wt_checks.proofs.NodesUnmarked.{no_mark_off}
use Rattle.wt_checks.proofs.Repeated.{or_false}
use Rattle.wt_difference.specs.Difference.{Inside, Children, Changed, are_none, changed, differing, all_differing, difference, is_stable, same_children, same_inside, stays_in, unless}
use Rattle.wt_difference.specs.Insides.{is_block_part}
use Rattle.wt_difference.specs.Remarked.{are_left, mark_of, remarked_in, all_remarked, remarked_child, remarked}
use Rattle.wt_difference.proofs.HeldChildren.{appended_none, appended_twice}

views_push : (ns : List Node) (n : Node) → views (ns ++ n ∷ []) ≡ appended (views ns) (more (view n) none)
views_push [] n = refl
views_push (m ∷ ns) n = ap (more (view m)) (views_push ns n)

-- one node more, whatever is made of each
pub made_on : (f : Tree → Tree) (fs : Trees → Trees) → ((t : Tree) (ts : Trees) → fs (more t ts) ≡ more (f t) (fs ts)) →
    (vs ws : List Node) (n m : Node) (xs ys : List Node) (all : Trees) → xs ≡ n ∷ ys → ws ≡ vs ++ m ∷ [] → view m ≡ f (view n)
    → appended (views vs) (fs (views xs)) ≡ all → appended (views ws) (fs (views ys)) ≡ all
made_on f fs each vs ws n m xs ys all e p h k =
    ap (λ ts. appended ts (fs (views ys))) (ap views p ∙ views_push vs m)
    ∙ appended_twice (views vs) (more (view m) none) (fs (views ys))
    ∙ ap (λ t. appended (views vs) (more t (fs (views ys)))) h
    ∙ ap (appended (views vs)) (sym (each (view n) (views ys)))
    ∙ ap (λ zs. appended (views vs) (fs (views zs))) (sym e) ∙ k

pub made_end : (fs : Trees → Trees) → fs none ≡ none → (vs xs : List Node) (all : Trees) → xs ≡ [] → appended (views vs) (fs (views xs)) ≡ all → views vs ≡ all
made_end fs b vs xs all e h =
    sym (appended_none (views vs)) ∙ ap (appended (views vs)) (sym b) ∙ ap (λ zs. appended (views vs) (fs (views zs))) (sym e) ∙ h

-- ---- one node

pub unmarked_out : (n : Node) → unmarked (view n) ≡ tree (record (label_of (out-Node n)) { mark = marks.Nothing }) (all_unmarked (views (out-Node n).children))
unmarked_out n = rw (view_out n)

pub remarked_out : (page : Page) (n : Node)
    → remarked_in page (view n) ≡ tree (record (label_of (out-Node n)) { mark = mark_of page (view n) (page (out-Node n).id) })
    (all_remarked page (out-Node n).id (views (out-Node n).children))
remarked_out page n =
    ap (remarked_in page) (view_out n)
    ∙ ap (λ t. tree (record (label_of (out-Node n)) { mark = mark_of page t (page (out-Node n).id) })
    (all_remarked page (out-Node n).id (views (out-Node n).children))) (sym (view_out n))

-- ---- marks alone

mutual
  twice : (t : Tree) → unmarked (unmarked t) ≡ unmarked t
  twice (tree l ts) = ap (tree (record l { mark = marks.Nothing })) (all_twice ts)

  all_twice : (ts : Trees) → all_unmarked (all_unmarked ts) ≡ all_unmarked ts
  all_twice none = refl
  all_twice (more t ts) = ap₂ more (twice t) (all_twice ts)

either : (b : Bool) (t u v : Tree) → unmarked t ≡ v → unmarked u ≡ v → unmarked (if b then t else u) ≡ v
either true t u v e f = e
either false t u v e f = f

mutual
  marks_in : (page : Page) (u : Tree) → unmarked (remarked_in page u) ≡ unmarked u
  marks_in page (tree m us) = ap (tree (record m { mark = marks.Nothing })) (marks_in_all page m.id us)

  marks_in_all : (page : Page) (holder : ℕ) (us : Trees) → all_unmarked (all_remarked page holder us) ≡ all_unmarked us
  marks_in_all page holder none = refl
  marks_in_all page holder (more u us) =
      ap₂ more (either (is_stable page holder u) (remarked_in page u) (unmarked u) (unmarked u) (marks_in page u) (twice u)) (marks_in_all page holder us)

pub marks_alone : (t u : Tree) → unmarked (remarked t u) ≡ unmarked u
unfolding remarked
marks_alone t u = marks_in (page_of t) u

-- ---- groups

and_left : (a b : Bool) → (a && b) ≡ true → a ≡ true
and_left true b e = refl
and_left false b e = absurd (cc)

both_true : (a b : Bool) → a ≡ true → b ≡ true → (a && b) ≡ true
both_true true b e f = f
both_true false b e f = absurd (cc)

pub block_no_group : (k : Kind) → is_block_part k ≡ true → is_group k ≡ false
block_no_group kind.Group e = absurd (cc)
block_no_group k e = refl

body_no_group : (k : Kind) → is_body k ≡ true → is_group k ≡ false
body_no_group kind.Group e = absurd (cc)
body_no_group k e = refl

free_by : (g h b : Bool) → h ≡ false → b ≡ true → (if g then not h else b) ≡ true
free_by true h b e f = ap not e
free_by false h b e f = f

mutual
  off_free : (t : Tree) → groups_unmarked (unmarked t) ≡ true
  off_free (tree l ts) = free_by (is_group l.kind) (has_mark (unmarked (tree l ts))) (all_groups_unmarked (all_unmarked ts)) (no_mark_off (tree l ts)) (all_off_free ts)

  all_off_free : (ts : Trees) → all_groups_unmarked (all_unmarked ts) ≡ true
  all_off_free none = refl
  all_off_free (more t ts) = both_true (groups_unmarked (unmarked t)) (all_groups_unmarked (all_unmarked ts)) (off_free t) (all_off_free ts)

either_free : (b : Bool) (t u : Tree) → (b ≡ true → groups_unmarked t ≡ true) → groups_unmarked u ≡ true → groups_unmarked (if b then t else u) ≡ true
either_free true t u e f = e refl
either_free false t u e f = f

no_group_free : (g h b : Bool) → g ≡ false → b ≡ true → (if g then not h else b) ≡ true
no_group_free true h b e f = absurd (cc)
no_group_free false h b e f = f

mutual
  free_in : (page : Page) (u : Tree) → is_group (label u).kind ≡ false → groups_unmarked (remarked_in page u) ≡ true
  free_in page (tree m us) g =
      no_group_free (is_group m.kind) (has_mark (remarked_in page (tree m us))) (all_groups_unmarked (all_remarked page m.id us)) g (all_free_in page m.id us)

  all_free_in : (page : Page) (holder : ℕ) (us : Trees) → all_groups_unmarked (all_remarked page holder us) ≡ true
  all_free_in page holder none = refl
  all_free_in page holder (more u us) =
      both_true (groups_unmarked (remarked_child page holder u)) (all_groups_unmarked (all_remarked page holder us))
      (either_free (is_stable page holder u) (remarked_in page u) (unmarked u)
      (λ e. free_in page u (block_no_group (label u).kind (and_left (is_block_part (label u).kind) (stays_in page holder u) e)))
      (off_free u))
      (all_free_in page holder us)

pub groups_free : (t u : Tree) → is_body (label u).kind ≡ true → groups_unmarked (remarked t u) ≡ true
unfolding remarked
groups_free t u b = free_in (page_of t) u (body_no_group (label u).kind b)

-- ---- what has no mark stays as it is

no_mark : (m : Mark) → is_marked m ≡ false → m ≡ marks.Nothing
no_mark marks.Nothing e = refl
no_mark marks.Content e = absurd (cc)
no_mark marks.Children e = absurd (cc)
no_mark marks.Other e = absurd (cc)

bare_label : (l : Label) → is_marked l.mark ≡ false → record l { mark = marks.Nothing } ≡ l
bare_label l e = ap (λ (m : Mark). record l { mark = m }) (sym (no_mark l.mark e))

mutual
  pub bare_stays : (t : Tree) → has_mark t ≡ false → unmarked t ≡ t
  bare_stays (tree l ts) e =
      let h = or_false (is_marked l.mark) (have_mark ts) e in ap₂ tree (bare_label l h.0) (all_bare_stay ts h.1)

  all_bare_stay : (ts : Trees) → have_mark ts ≡ false → all_unmarked ts ≡ ts
  all_bare_stay none e = refl
  all_bare_stay (more t ts) e =
      let h = or_false (has_mark t) (have_mark ts) e in ap₂ more (bare_stays t h.0) (all_bare_stay ts h.1)

not_true : (b : Bool) → not b ≡ true → b ≡ false
not_true true e = sym e
not_true false e = refl

and_right : (a b : Bool) → (a && b) ≡ true → b ≡ true
and_right true b e = e
and_right false b e = absurd (cc)

no_part : (page : Page) (holder : ℕ) (u : Tree) → is_block_part (label u).kind ≡ false → is_stable page holder u ≡ false
no_part page holder u e = ap (λ b. b && stays_in page holder u) e

left_child : (page : Page) (holder : ℕ) (u : Tree) (b : Bool) → b ≡ false → has_mark u ≡ false → (if b then remarked_in page u else unmarked u) ≡ u
left_child page holder u true e h = absurd (cc)
left_child page holder u false e h = bare_stays u h

pub left_remarked : (page : Page) (holder : ℕ) (us : Trees) → are_left us ≡ true → all_remarked page holder us ≡ us
left_remarked page holder none e = refl
left_remarked page holder (more u us) e =
    let part = not_true (is_block_part (label u).kind) (and_left (not (is_block_part (label u).kind)) (not (has_mark u) && are_left us) e) in
    let rest = and_right (not (is_block_part (label u).kind)) (not (has_mark u) && are_left us) e in
    let bare = not_true (has_mark u) (and_left (not (has_mark u)) (are_left us) rest) in
    ap₂ more (left_child page holder u (is_stable page holder u) (no_part page holder u part) bare)
    (left_remarked page holder us (and_right (not (has_mark u)) (are_left us) rest))

-- ---- nothing differs where nothing is marked

none_joined : (xs ys : List Changed) (a b : Bool) → are_none xs ≡ not a → are_none ys ≡ not b → are_none (xs ++ ys) ≡ not (a || b)
none_joined [] ys true b e f = absurd (cc)
none_joined [] ys false b e f = f
none_joined (x ∷ xs) ys true b e f = refl
none_joined (x ∷ xs) ys false b e f = absurd (cc)

between_marked : (same kept : Bool) (t u : Tree)
    → are_none (unless same Inside t u ++ unless kept Children t u)
    ≡ not (is_marked (if same then (if kept then marks.Nothing else marks.Children) else marks.Content))
between_marked true true t u = refl
between_marked true false t u = refl
between_marked false true t u = refl
between_marked false false t u = refl

changed_marked : (page : Page) (u : Tree) (o : Option Place) → are_none (changed page u o) ≡ not (is_marked (mark_of page u o))
changed_marked page u None = refl
changed_marked page u (Some q) = between_marked (same_inside q.node u) (same_children page q.node u) q.node u

child_marked : (page : Page) (u : Tree) (b : Bool) → are_none (differing page u) ≡ not (has_mark (remarked_in page u))
    → are_none (if b then differing page u else []) ≡ not (has_mark (if b then remarked_in page u else unmarked u))
child_marked page u true e = e
child_marked page u false e = sym (ap not (no_mark_off u))

mutual
  none_in : (page : Page) (u : Tree) → are_none (differing page u) ≡ not (has_mark (remarked_in page u))
  none_in page (tree m us) =
      none_joined (changed page (tree m us) (page m.id)) (all_differing page m.id us) (is_marked (mark_of page (tree m us) (page m.id)))
      (have_mark (all_remarked page m.id us)) (changed_marked page (tree m us) (page m.id)) (none_in_all page m.id us)

  none_in_all : (page : Page) (holder : ℕ) (us : Trees) → are_none (all_differing page holder us) ≡ not (have_mark (all_remarked page holder us))
  none_in_all page holder none = refl
  none_in_all page holder (more u us) =
      none_joined (if is_stable page holder u then differing page u else []) (all_differing page holder us)
      (has_mark (remarked_child page holder u)) (have_mark (all_remarked page holder us))
      (child_marked page u (is_stable page holder u) (none_in page u)) (none_in_all page holder us)

pub none_marked : (t u : Tree) → are_none (difference t u) ≡ not (has_mark (remarked t u))
unfolding remarked
none_marked t u = none_in (page_of t) u
