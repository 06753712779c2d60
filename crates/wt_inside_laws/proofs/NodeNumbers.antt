-- Each node of a retyped block of the page has a number: it is found by it in what was sent.
use Rattle.std.proofs.Common.{◌≡◌, ◌≢◌, ℕ, Bool, Some, List, [], ◌∷◌, ◌++◌, subst}
use Rattle.std.specs.List.{AllByRecursion}
use Rattle.wt_tree.specs.EditShapes.{edit_shape}
use Rattle.wt_tree.specs.Tree.{Label, Tree, Trees, label, more, none, tree}
use Rattle.wt_tree.specs.declared.edit_shape.InlineForm.{InlineForm}
use Rattle.wt_tree.specs.declared.edit_shape.InlineForm.TheVariants as inline
use Rattle.wt_span.specs.Origins.{Expanded}
use Rattle.wt_original.specs.Kept.{Kept, kept_nodes, kept_with}
use Rattle.wt_original.specs.Page.{Page, page_of}
use Rattle.wt_link_spelling.specs.Spelling.{children_of}
use Rattle.wt_page_round_trip.proofs.PageLines.{all_left, all_right}
use Rattle.wt_slices.specs.Changes.{Pair}
use Rattle.wt_called_edit_laws.specs.StyledCallEdits.{HasNumberBy, HasNumbers, HaveNumbers}
use Rattle.wt_inside_laws.specs.Contents.{Border, bold, borders, borders_by, borders_of, element, elements, elements_by, elements_of, end, italic, styles, styles_by, styles_of}
use Rattle.wt_inside_laws.specs.TextEdits.{IsRetyped, IsSameStyle, IsUntouched}

-- it is none of a node without a number
abbrev HasNumber : Border → Type 0
HasNumber (element n) = n ≢ 0
HasNumber (bold n) = n ≢ 0
HasNumber (italic n) = n ≢ 0
HasNumber end = Unit {0}

abbrev AreNumbers : List Border → Type 0
AreNumbers bs = AllByRecursion HasNumber bs

numbers_both : (bs cs : List Border) → AreNumbers bs → AreNumbers cs → AreNumbers (bs ++ cs)
numbers_both [] cs h k = k
numbers_both (b ∷ bs) cs h k = (h.0, numbers_both bs cs h.1 k)

-- ---- of what was sent

found_number : (n : ℕ) (ks : List Kept) (k : Kept) → kept_with n ks ≡ Some k → n ≢ 0
unfolding kept_with
found_number n ks k f = λ e. let no : kept_with 0 ks ≡ Some k = subst (λ (m : ℕ). kept_with m ks ≡ Some k) e f in cc

untouched_number : (page : Page) (t : Tree) → IsUntouched page t → (label t).id ≢ 0
untouched_number page t u = found_number (label t).id page.kept u.kept u.found

style_number : (ks : List Kept) (t : Tree) → IsSameStyle ks t → (label t).id ≢ 0
style_number ks t s = found_number (label t).id ks s.kept s.found

one_sent : (w : InlineForm) (page : Page) (ks : List Kept) (l : Label) (ts : Trees) (bs : List Border) (es ss : List Tree)
    → AllByRecursion (IsUntouched page) (elements_by w (tree l ts) es) → AllByRecursion (IsSameStyle ks) (styles_by w (tree l ts) ss)
    → (AllByRecursion (IsUntouched page) es → AllByRecursion (IsSameStyle ks) ss → AreNumbers bs) → AreNumbers (borders_by w l.id bs)
one_sent inline.Nothing page ks l ts bs es ss u s f = tt
one_sent inline.Characters page ks l ts bs es ss u s f = tt
one_sent inline.Bold page ks l ts bs es ss u s f = (style_number ks (tree l ts) s.0, numbers_both bs (end ∷ []) (f u s.1) (tt, tt))
one_sent inline.Italic page ks l ts bs es ss u s f = (style_number ks (tree l ts) s.0, numbers_both bs (end ∷ []) (f u s.1) (tt, tt))
one_sent inline.Shown page ks l ts bs es ss u s f = (untouched_number page (tree l ts) u.0, tt)
one_sent inline.PageLink page ks l ts bs es ss u s f = (untouched_number page (tree l ts) u.0, tt)
one_sent inline.ExternalLink page ks l ts bs es ss u s f = (untouched_number page (tree l ts) u.0, tt)
one_sent inline.Tag page ks l ts bs es ss u s f = (untouched_number page (tree l ts) u.0, tt)
one_sent inline.Break page ks l ts bs es ss u s f = (untouched_number page (tree l ts) u.0, tt)
one_sent inline.AsItStood page ks l ts bs es ss u s f = (untouched_number page (tree l ts) u.0, tt)

mutual
  tree_sent : (page : Page) (ks : List Kept) (t : Tree) → AllByRecursion (IsUntouched page) (elements_of t) → AllByRecursion (IsSameStyle ks) (styles_of t)
      → AreNumbers (borders_of t)
  tree_sent page ks (tree l ts) u s =
      one_sent (edit_shape l.kind).inline page ks l ts (borders ts) (elements ts) (styles ts) u s (λ a b. trees_sent page ks ts a b)

  trees_sent : (page : Page) (ks : List Kept) (ts : Trees) → AllByRecursion (IsUntouched page) (elements ts) → AllByRecursion (IsSameStyle ks) (styles ts)
      → AreNumbers (borders ts)
  trees_sent page ks none u s = tt
  trees_sent page ks (more t ts) u s =
      numbers_both (borders_of t) (borders ts)
      (tree_sent page ks t (all_left (IsUntouched page) (elements_of t) (elements ts) u) (all_left (IsSameStyle ks) (styles_of t) (styles ts) s))
      (trees_sent page ks ts (all_right (IsUntouched page) (elements_of t) (elements ts) u) (all_right (IsSameStyle ks) (styles_of t) (styles ts) s))

-- ---- of the page

one_numbered : (w : InlineForm) (l : Label) (bs : List Border) (I : Type 0) → AreNumbers (borders_by w l.id bs) → (AreNumbers bs → I) → HasNumberBy w l I
one_numbered inline.Nothing l bs I h f = tt
one_numbered inline.Characters l bs I h f = tt
one_numbered inline.Bold l bs I h f = (h.0, f (all_left HasNumber bs (end ∷ []) h.1))
one_numbered inline.Italic l bs I h f = (h.0, f (all_left HasNumber bs (end ∷ []) h.1))
one_numbered inline.Shown l bs I h f = h.0
one_numbered inline.PageLink l bs I h f = h.0
one_numbered inline.ExternalLink l bs I h f = h.0
one_numbered inline.Tag l bs I h f = h.0
one_numbered inline.Break l bs I h f = h.0
one_numbered inline.AsItStood l bs I h f = h.0

mutual
  tree_numbered : (t : Tree) → AreNumbers (borders_of t) → HasNumbers t
  tree_numbered (tree l ts) h = one_numbered (edit_shape l.kind).inline l (borders ts) (HaveNumbers ts) h (λ a. trees_numbered ts a)

  trees_numbered : (ts : Trees) → AreNumbers (borders ts) → HaveNumbers ts
  trees_numbered none h = tt
  trees_numbered (more t ts) h =
      (tree_numbered t (all_left HasNumber (borders_of t) (borders ts) h), trees_numbered ts (all_right HasNumber (borders_of t) (borders ts) h))

pub nodes_numbered : (same : Tree → Tree → Bool) (items : Expanded) (page : List ℕ) (p : Pair) → IsRetyped same items page p → HaveNumbers (children_of p.old)
nodes_numbered same items page p r =
    trees_numbered (children_of p.old)
    (subst AreNumbers r.in_order (trees_sent (page_of same p.old) (kept_nodes p.old) (children_of p.new) r.untouched r.styled))
