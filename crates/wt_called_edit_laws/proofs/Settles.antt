-- The numbers and places of a page's tree are those that the rest of it leaves: each node begins where what comes before it ends.
use Rattle.std.proofs.Common.{◌≡◌, ℕ, ◌+◌, ◌-◌, Bool, true, false, Option, Some, None, List, [], length, refl, sym, ap, ap₂, ◌∙◌, subst}
use Rattle.std.specs.Prelude.{if◌then◌else◌}
use Rattle.std.specs.List.{AllByRecursion}
use Rattle.wt_tree.specs.declared.kind.Kind.TheVariants as kind
use Rattle.wt_tree.specs.declared.kind.Ranges.{Ranges}
use Rattle.wt_tree.specs.declared.node.DataMw.{DataMw}
use Rattle.wt_tree.specs.Kinds.{is_leaf, is_numbered}
use Rattle.wt_tree.specs.Source.{flat}
use Rattle.wt_tree.specs.Tiling.{is_group, BeginsAt, end_of, TiledBy, Tiled, TiledFrom}
use Rattle.wt_tree.specs.Tree.{Label, Tree, tree, Trees, none, more, label}
use Rattle.wt_span.specs.Cuts.{page_of}
use Rattle.wt_span.specs.Origins.{OuterCall}
use Rattle.wt_inline.specs.ItemTree.{plain, ItemTree, inner, ItemTrees, tree_items}
use Rattle.wt_checks.proofs.Lookups.{each_split}
use Rattle.wt_difference.specs.Unedited.{GroupOr}
use Rattle.wt_annotated.specs.Annotated.{placed, annotated}
use Rattle.wt_annotated.specs.CutTexts.{cut_texts}
use Rattle.wt_annotated.specs.GroupParts.{Part}
use Rattle.wt_annotated.specs.Grouped.{grouped}
use Rattle.wt_annotated.specs.Numbering.{number_of, next_after, count, count_all, with_id, with_numbers, all_with_numbers}
use Rattle.wt_annotated.specs.Reached.{reached, reached_in_all}
use Rattle.wt_annotated.specs.Slices.{opening_by, opening_of, StandsIn, IsSlice}
use Rattle.wt_annotated.proofs.AnnotatedTree.{annotated_tiles, annotated_slices, annotated_covers}
use Rattle.wt_annotated.proofs.Ends.{body_clean}
use Rattle.wt_part_laws.specs.Placeless.{placeless_label, placeless, all_placeless}
use Rattle.wt_part_laws.proofs.GroupsStay.{numbers_gone}
use Rattle.wt_called_edit_laws.proofs.TextsMake.{flat_same}
use Rattle.wt_called_edit_laws.proofs.TilesStand.{ranges_at, ranges_are}
use Rattle.wt_called_edit_laws.specs.Settled.{settled, all_settled, IsSettled}
use Rattle.wt_called_edit_laws.proofs.BareInsides.{IsBare, AreBare, page_bare}

-- ---- without numbers and places as many have a number, and the source is the same

mutual
  count_same : (t : Tree) → count (placeless t) ≡ count t
  count_same (tree l ts) = ap (λ (n : ℕ). (if is_numbered l.kind then 1 else 0) + (if is_group l.kind then 0 else n)) (all_count_same ts)

  all_count_same : (ts : Trees) → count_all (all_placeless ts) ≡ count_all ts
  all_count_same none = refl
  all_count_same (more t ts) = ap₂ (λ (m n : ℕ). m + n) (count_same t) (all_count_same ts)

numbered_flat : (n : ℕ) (t : Tree) → flat (with_numbers n t) ≡ flat (placeless t)
numbered_flat n t = sym (flat_same (with_numbers n t)) ∙ ap flat (numbers_gone n t)

-- ---- the inside of a node

abbrev AllSliced : List ℕ → Trees → Type 0
AllSliced page ts = AllByRecursion (IsSlice page) (reached_in_all ts)

-- where the inside of a node that is no leaf is tiled from
inside_tiled : (v : Bool) (r : Option Ranges) (s : Ranges) (inside : ℕ → ℕ → Type 0) → v ≡ false → r ≡ Some s → TiledBy v r inside
    → inside (s.start + s.open_w) (s.end - s.close_w)
inside_tiled v r s inside e f h =
    let P : Bool → Option Ranges → Type 0 = λ w q. TiledBy w q inside in
    (subst (λ (q : Option Ranges). P false q) f (subst (λ (w : Bool). P w r) e h)).1

-- a leaf holds nothing
leaf_settled : (n m at : ℕ) (ts : Trees) → ts ≡ none → all_with_numbers n ts ≡ all_settled m at (all_placeless ts)
leaf_settled n m at ts e = ap (all_with_numbers n) e ∙ sym (ap (λ (us : Trees). all_settled m at (all_placeless us)) e)

inner_settled : (v : Bool) (n at : ℕ) (l : Label) (source : List ℕ) (ts : Trees) → is_leaf l.kind ≡ v → (v ≡ true → ts ≡ none)
    → l.ranges ≡ Some (ranges_at at source (opening_of l) l.closing)
    → TiledBy (is_leaf l.kind) l.ranges (λ from to. TiledFrom (all_with_numbers n ts) from to)
    → ((to : ℕ) → TiledFrom (all_with_numbers n ts) (at + length l.opening) to → all_with_numbers n ts ≡ all_settled n (at + length l.opening) (all_placeless ts))
    → all_with_numbers n ts ≡ all_settled n (at + length l.opening) (all_placeless ts)
inner_settled true n at l source ts v leaf r t f = leaf_settled n n (at + length l.opening) ts (leaf refl)
inner_settled false n at l source ts v leaf r t f =
    let s : Ranges = ranges_at at source (opening_of l) l.closing in
    let own : opening_of l ≡ l.opening = ap (λ (w : Bool). opening_by w l) v in
    f (s.end - s.close_w)
    (subst (λ (os : List ℕ). TiledFrom (all_with_numbers n ts) (at + length os) (s.end - s.close_w)) own
    (inside_tiled (is_leaf l.kind) l.ranges s (λ from to. TiledFrom (all_with_numbers n ts) from to) v r t))

-- of a group, or of another node
children_settled : (page : List ℕ) (g : Bool) (l : Label) (ts us vs : Trees) → GroupOr g (all_placeless ts ≡ ts) ((is_leaf l.kind ≡ true → ts ≡ none) × AreBare ts)
    → TiledBy (is_leaf l.kind) l.ranges (λ from to. TiledFrom (if g then ts else us) from to)
    → AllByRecursion (IsSlice page) (if g then [] else reached_in_all (if g then ts else us))
    → ((is_leaf l.kind ≡ true → ts ≡ none) → AreBare ts → TiledBy (is_leaf l.kind) l.ranges (λ from to. TiledFrom us from to) → AllSliced page us → us ≡ vs)
    → (if g then ts else us) ≡ (if g then all_placeless ts else vs)
children_settled page true l ts us vs h t s f = sym h
children_settled page false l ts us vs h t s f = f h.0 h.1 t s

-- its delimiters hang neither on its number nor on its place
opening_same : (v : Bool) (i : ℕ) (r : Option Ranges) (l : Label) → opening_by v (record l { id = i; ranges = r }) ≡ opening_by v l
opening_same true i r l = refl
opening_same false i r l = refl

settled_end : (n at : ℕ) (t : Tree) → end_of (label (settled n at t)).ranges ≡ at + length (flat t)
settled_end n at (tree l ts) = refl

-- ---- all of it

mutual
  settles : (page : List ℕ) (n at : ℕ) (t : Tree) → BeginsAt at (label (with_numbers n t)).ranges → Tiled (with_numbers n t)
      → AllByRecursion (IsSlice page) (reached (with_numbers n t)) → IsBare t → with_numbers n t ≡ settled n at (placeless t)
  settles page n at (tree l ts) b t s h =
      let m : ℕ = next_after l.kind n in
      let us : Trees = all_with_numbers m ts in
      let source : List ℕ = flat (placeless (tree l ts)) in
      let same : flat (with_numbers n (tree l ts)) ≡ source = numbered_flat n (tree l ts) in
      let own : opening_of (with_id (number_of l.kind n) l) ≡ opening_of l = opening_same (is_leaf l.kind) (number_of l.kind n) l.ranges l in
      let stands : StandsIn page l.ranges (flat (with_numbers n (tree l ts))) (opening_of l) l.closing =
      subst (λ (os : List ℕ). StandsIn page l.ranges (flat (with_numbers n (tree l ts))) os l.closing) own s.0 in
      let is : l.ranges ≡ Some (ranges_at at source (opening_of l) l.closing) =
      subst (λ (cs : List ℕ). l.ranges ≡ Some (ranges_at at cs (opening_of l) l.closing)) same
      (ranges_are page at l.ranges (flat (with_numbers n (tree l ts))) (opening_of l) l.closing b stands) in
      let now : l.ranges ≡ Some (ranges_at at source (opening_of (placeless_label l)) l.closing) =
      is ∙ ap (λ (os : List ℕ). Some (ranges_at at source os l.closing)) (sym (opening_same (is_leaf l.kind) 0 None l)) in
      ap₂ tree (ap (λ (q : Option Ranges). record l { id = number_of l.kind n; ranges = q }) now)
      (children_settled page (is_group l.kind) l ts us (all_settled m (at + length l.opening) (all_placeless ts)) h t s.1
      (λ leaf bare inside sliced.
      inner_settled (is_leaf l.kind) m at l source ts refl leaf is inside (λ to tiled. all_settles page m (at + length l.opening) to ts tiled sliced bare)))

  all_settles : (page : List ℕ) (n at to : ℕ) (ts : Trees) → TiledFrom (all_with_numbers n ts) at to → AllSliced page (all_with_numbers n ts) → AreBare ts
      → all_with_numbers n ts ≡ all_settled n at (all_placeless ts)
  all_settles page n at to none t s h = refl
  all_settles page n at to (more u ts) t s h =
      let rest : Trees = all_with_numbers (n + count u) ts in
      let next : ℕ = at + length (flat (placeless u)) in
      let w = each_split (IsSlice page) (reached (with_numbers n u)) (reached_in_all rest) s in
      let one : with_numbers n u ≡ settled n at (placeless u) = settles page n at u t.0 t.1 w.0 h.0 in
      let ends : end_of (label (with_numbers n u)).ranges ≡ next = ap (λ (x : Tree). end_of (label x).ranges) one ∙ settled_end n at (placeless u) in
      ap₂ more one
      (all_settles page (n + count u) next to ts (subst (λ (i : ℕ). TiledFrom rest i to) ends t.2) w.1 h.1
      ∙ ap (λ (k : ℕ). all_settled (n + k) next (all_placeless ts)) (sym (count_same u)))

-- ---- the page

pub settled_tree : (calls : List OuterCall) (carried : List Part → Option DataMw) (ts : ItemTrees) → IsSettled (annotated calls carried (inner (plain kind.Body) [] ts []))
unfolding annotated
settled_tree calls carried ts =
    let t : ItemTree = inner (plain kind.Body) [] ts [] in
    let u : Tree = cut_texts (placed calls carried (tree_items t) (grouped (tree_items t) 0 t)) in
    let begins : BeginsAt 0 (label (with_numbers 1 u)).ranges = subst (BeginsAt 0) (sym (annotated_covers calls carried ts)) refl in
    settles (page_of calls (tree_items t)) 1 0 u begins (annotated_tiles calls carried t (body_clean ts)) (annotated_slices calls carried t (body_clean ts))
    (page_bare calls carried (tree_items t) (grouped (tree_items t) 0 t))
    ∙ ap (settled 1 0) (sym (numbers_gone 1 u))
