-- The annotated tree has at most as many numbers as the tree has nodes.
use Rattle.std.proofs.Common.{◌≡◌, ℕ, ◌+◌, ◌≤◌, Bool, true, false, List, [], ◌∷◌, ◌++◌, length, refl, ap, ◌∙◌, subst, cond, arith}
use Rattle.wt_tree.specs.Kinds.{is_leaf, is_numbered}
use Rattle.wt_tree.specs.Tiling.{is_group}
use Rattle.wt_tree.specs.Tree.{Trees}
use Rattle.wt_span.specs.Items.{Item}
use Rattle.wt_span.specs.Origins.{OuterCall}
use Rattle.wt_span.specs.Runs.{runs, AreRuns}
use Rattle.wt_span.proofs.RunLaws.{runs_are}
use Rattle.wt_inline.specs.ItemTree.{ItemTree, inner, ItemTrees, nothing, further, tree_items}
use Rattle.wt_annotated.specs.Numbering.{count, count_all}
use Rattle.wt_annotated.specs.WithoutCalls.{inside_by}
use Rattle.wt_annotated.specs.Counted.{nodes, nodes_of_all}
use Rattle.wt_annotated.specs.Grouped.{group, Child, is_tied, of_runs, grouped, children}
use Rattle.wt_annotated.specs.Annotated.{placed, all_placed}
use Rattle.wt_annotated.proofs.Tiles.{Carried}

kept_by : (n g is : Bool) (us : Trees) → cond n 1 0 + cond g 0 (count_all (inside_by is us)) ≤ 1 + count_all us
kept_by true true is us = omega arith
kept_by true false true us = omega arith
kept_by true false false us = omega arith
kept_by false true is us = omega arith
kept_by false false true us = omega arith
kept_by false false false us = omega arith

abbrev child_nodes : List Child → ℕ
child_nodes [] = 0
child_nodes (c ∷ cs) = nodes c.tree + child_nodes cs

child_append : (cs ds : List Child) → child_nodes (cs ++ ds) ≡ child_nodes cs + child_nodes ds
child_append [] ds = omega arith
child_append (c ∷ cs) ds = omega (arith, child_append cs ds)

some_node : (t : ItemTree) → 1 ≤ nodes t
some_node (inner h o ts c) = omega arith

abbrev Counted : List OuterCall → Carried → List Item → List Child → Type 0
Counted calls carried all [] = Unit {0}
Counted calls carried all (c ∷ cs) = (count (placed calls carried all c.whole) ≤ nodes c.tree) × Counted calls carried all cs

counted_rest : (calls : List OuterCall) (carried : Carried) (all : List Item) (cs ds : List Child) → Counted calls carried all (cs ++ ds)
    → Counted calls carried all ds
counted_rest calls carried all [] ds h = h
counted_rest calls carried all (c ∷ cs) ds h = counted_rest calls carried all cs ds h.1

one_by : (calls : List OuterCall) (carried : Carried) (all : List Item) (c : Child) (v : Bool) → count (placed calls carried all c.whole) ≤ nodes c.tree
    → count (placed calls carried all (cond v c.whole (group c.from c.size (further c.tree nothing)))) ≤ nodes c.tree
one_by calls carried all c true h = h
one_by calls carried all c false h = let s = some_node c.tree in omega (arith, s)

runs_counted : (calls : List OuterCall) (carried : Carried) (all : List Item) (rs : List (List Child)) (cs : List Child) → AreRuns (is_tied all) rs cs
    → Counted calls carried all cs → count_all (all_placed calls carried all (of_runs rs)) ≤ child_nodes cs
runs_counted calls carried all [] cs h k = omega arith
runs_counted calls carried all ([] ∷ rs) cs h k = absurd h.2
runs_counted calls carried all ((c ∷ []) ∷ rs) cs h k =
    let l : Counted calls carried all (c ∷ h.0) = subst (λ (ds : List Child). Counted calls carried all ds) h.1 k in
    let e : child_nodes cs ≡ nodes c.tree + child_nodes h.0 = ap child_nodes h.1 in
    let one = one_by calls carried all c c.clean l.0 in
    let rest = runs_counted calls carried all rs h.0 h.3 l.1 in
    omega (arith, e, one, rest)
runs_counted calls carried all ((c ∷ d ∷ ds) ∷ rs) cs h k =
    let l : Counted calls carried all (c ∷ d ∷ ds ++ h.0) = subst (λ (es : List Child). Counted calls carried all es) h.1 k in
    let e : child_nodes cs ≡ child_nodes (c ∷ d ∷ ds) + child_nodes h.0 = ap child_nodes h.1 ∙ child_append (c ∷ d ∷ ds) h.0 in
    let s = some_node c.tree in
    let rest = runs_counted calls carried all rs h.0 h.3 (counted_rest calls carried all (c ∷ d ∷ ds) h.0 l) in
    omega (arith, e, s, rest)

children_nodes : (all : List Item) (n : ℕ) (ts : ItemTrees) → child_nodes (children all n ts) ≡ nodes_of_all ts
children_nodes all n nothing = refl
children_nodes all n (further t ts) = ap (λ m. nodes t + m) (children_nodes all (n + length (tree_items t)) ts)

mutual
  pub few : (calls : List OuterCall) (carried : Carried) (all : List Item) (n : ℕ) (t : ItemTree)
      → count (placed calls carried all (grouped all n t)) ≤ nodes t
  few calls carried all n (inner h o ts c) =
      let cs : List Child = children all (n + length o) ts in
      let us : Trees = all_placed calls carried all (of_runs (runs (is_tied all) cs)) in
      let inside : count_all us ≤ child_nodes cs =
      runs_counted calls carried all (runs (is_tied all) cs) cs (runs_are (is_tied all) cs) (all_few calls carried all (n + length o) ts) in
      let own = kept_by (is_numbered h.kind) (is_group h.kind) (is_leaf h.kind) us in
      let e = children_nodes all (n + length o) ts in
      omega (arith, inside, own, e)

  all_few : (calls : List OuterCall) (carried : Carried) (all : List Item) (n : ℕ) (ts : ItemTrees) → Counted calls carried all (children all n ts)
  all_few calls carried all n nothing = tt
  all_few calls carried all n (further t ts) = (few calls carried all n t, all_few calls carried all (n + length (tree_items t)) ts)
