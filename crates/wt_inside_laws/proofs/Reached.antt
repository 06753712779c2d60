-- The paths of an edit meet no group.
use Rattle.std.proofs.Common.{◌≡◌, ℕ, zero, false, Some, List, [], ◌∷◌, map, subst}
use Rattle.std.specs.List.{AllByRecursion}
use Rattle.wt_tree.specs.Tiling.{is_group}
use Rattle.wt_tree.specs.Tree.{Label, Tree, tree, Trees, more, label}
use Rattle.wt_checks.specs.Kept.{children}
use Rattle.wt_checks.proofs.Lookups.{each_join}
use Rattle.wt_typed_blocks.specs.Edited.{Edited, stays, edited, round, Edits, no_edits, more_edits, page_node, page_nodes, IsOutside, AreOutside}
use Rattle.wt_called_edit_laws.specs.RowBlocks.{IsReachedAt, IsReachedIn}
use Rattle.wt_inside_laws.specs.AsSent.{past_first, paths_in, paths_of, node_at, node_among}

-- the node at this path, if there is one, and no group on the way
abbrev pub Reaches : Tree → List ℕ → Type 0
Reaches t p = (u : Tree) → node_at p t ≡ Some u → IsReachedAt p t u

-- so below a node
abbrev ReachedFrom : Trees → List ℕ → Tree → Type 0
ReachedFrom ts [] u = Unit {0}
ReachedFrom ts (i ∷ is) u = node_among i is ts ≡ Some u → IsReachedIn i is ts u

abbrev ReachesBelow : Trees → List ℕ → Type 0
ReachesBelow ts p = (u : Tree) → ReachedFrom ts p u

each_map : {A B : Type 0} (P : A → Type 0) (Q : B → Type 0) (f : A → B) (xs : List A) → ((x : A) → P x → Q (f x)) → AllByRecursion P xs → AllByRecursion Q (map f xs)
each_map P Q f [] g h = tt
each_map P Q f (x ∷ xs) g h = (g x h.0, each_map P Q f xs g h.1)

each_so : {A : Type 0} (P Q : A → Type 0) (xs : List A) → ((x : A) → P x → Q x) → AllByRecursion P xs → AllByRecursion Q xs
each_so P Q [] g h = tt
each_so P Q (x ∷ xs) g h = (g x h.0, each_so P Q xs g h.1)

same_node : (t u : Tree) → Some t ≡ Some u → t ≡ u
same_node t u e = cc

first_below : (t : Tree) (ts : Trees) (p : List ℕ) → Reaches t p → ReachesBelow (more t ts) (zero ∷ p)
first_below t ts p h = λ u e. h u e

past_below : (t : Tree) (ts : Trees) (p : List ℕ) → ReachesBelow ts p → ReachesBelow (more t ts) (past_first p)
past_below t ts [] h = λ u. tt
past_below t ts (i ∷ is) h = λ u e. h u e

below_holder : (l : Label) (ts : Trees) (p : List ℕ) → is_group l.kind ≡ false → ReachesBelow ts p → Reaches (tree l ts) p
below_holder l ts [] g h = λ u e. same_node (tree l ts) u e
below_holder l ts (i ∷ is) g h = λ u e. (g, h u e)

mutual
  reached_in : (e : Edited) → IsOutside e → AllByRecursion (Reaches (page_node e)) (paths_in e)
  reached_in (stays t u) o = tt
  reached_in (edited k l m ps) o = ((λ u e. same_node (page_node (edited k l m ps)) u e), tt)
  reached_in (round l m es) o =
      each_so (ReachesBelow (page_nodes es)) (Reaches (tree l (page_nodes es))) (paths_of es) (λ p h. below_holder l (page_nodes es) p o.0 h) (reached_below es o.1)

  reached_below : (es : Edits) → AreOutside es → AllByRecursion (ReachesBelow (page_nodes es)) (paths_of es)
  reached_below no_edits o = tt
  reached_below (more_edits e es) o =
      each_join (ReachesBelow (more (page_node e) (page_nodes es))) (map (λ p. zero ∷ p) (paths_in e)) (map past_first (paths_of es))
      (each_map (Reaches (page_node e)) (ReachesBelow (more (page_node e) (page_nodes es))) (λ p. zero ∷ p) (paths_in e)
      (λ p h. first_below (page_node e) (page_nodes es) p h) (reached_in e o.0))
      (each_map (ReachesBelow (page_nodes es)) (ReachesBelow (more (page_node e) (page_nodes es))) past_first (paths_of es)
      (λ p h. past_below (page_node e) (page_nodes es) p h) (reached_below es o.1))

-- of a tree whose root is no group
pub edits_reach : (t : Tree) (es : Edits) → is_group (label t).kind ≡ false → page_nodes es ≡ children t → AreOutside es → AllByRecursion (Reaches t) (paths_of es)
edits_reach (tree l ts) es g e o =
    subst (λ (us : Trees). AllByRecursion (Reaches (tree l us)) (paths_of es)) e
    (each_so (ReachesBelow (page_nodes es)) (Reaches (tree l (page_nodes es))) (paths_of es) (λ p h. below_holder l (page_nodes es) p g h) (reached_below es o))
