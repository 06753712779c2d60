-- No group could be made smaller: no cut within it is free between its nodes, and one that holds one node holds an unclean one.
use Rattle.std.proofs.Common.{◌≡◌, ℕ, ◌+◌, Bool, true, false, List, [], ◌∷◌, ◌++◌, length, refl, sym, subst, cond, arith}
use Rattle.std.specs.Prelude.{not}
use Rattle.wt_span.specs.Items.{Item}
use Rattle.wt_span.specs.Cuts.{is_free}
use Rattle.wt_span.specs.Runs.{runs, IsRun, AreRuns}
use Rattle.wt_span.proofs.RunLaws.{runs_are}
use Rattle.wt_inline.specs.ItemTree.{ItemTree, inner, ItemTrees, nothing, further, tree_items}
use Rattle.wt_annotated.specs.Clean.{is_clean}
use Rattle.wt_annotated.specs.Grouped.{group, Child, is_tied, size_of_all, nodes_of, of_runs, grouped, children}
use Rattle.wt_annotated.specs.Reached.{NoFreeCut, AreSmallest, AllSmallest}
use Rattle.wt_annotated.proofs.Ends.{false_true}

abbrev Chain : List Item → ℕ → List Child → Type 0
Chain all i [] = Unit {0}
Chain all i (c ∷ cs) = (c.from ≡ i) × (c.size ≡ length (tree_items c.tree)) × (c.clean ≡ is_clean all c.from c.tree) × AreSmallest all c.whole
    × Chain all (c.from + c.size) cs

chain_rest : (all : List Item) (i : ℕ) (c : Child) (cs others : List Child) → Chain all i (c ∷ cs ++ others)
    → Chain all (c.from + size_of_all (c ∷ cs)) others
chain_rest all i c [] others h =
    let e : c.from + c.size ≡ c.from + (c.size + 0) = omega arith in
    subst (λ (n : ℕ). Chain all n others) e h.4
chain_rest all i c (d ∷ ds) others h =
    let s : d.from ≡ c.from + c.size = h.4.0 in
    let e : d.from + size_of_all (d ∷ ds) ≡ c.from + size_of_all (c ∷ d ∷ ds) = omega (arith, s) in
    subst (λ (n : ℕ). Chain all n others) e (chain_rest all (c.from + c.size) d ds others h.4)

not_true : (v : Bool) → not v ≡ true → v ≡ false
not_true true e = false_true e
not_true false e = refl

no_free : (all : List Item) (i : ℕ) (c : Child) (cs others : List Child) → IsRun (is_tied all) (c ∷ cs) others → Chain all i (c ∷ cs ++ others)
    → NoFreeCut all c.from (nodes_of (c ∷ cs))
no_free all i c [] others h l = tt
no_free all i c (d ∷ ds) others h l =
    let s : d.from ≡ c.from + c.size = l.4.0 in
    let e : d.from ≡ c.from + length (tree_items c.tree) = omega (arith, s, l.1) in (
      subst (λ (m : ℕ). is_free all m ≡ false) e (not_true (is_free all d.from) h.0),
      subst (λ (m : ℕ). NoFreeCut all m (nodes_of (d ∷ ds))) e (no_free all (c.from + c.size) d ds others h.1 l.4),
    )

one_by : (all : List Item) (c : Child) (v : Bool) → v ≡ is_clean all c.from c.tree → AreSmallest all c.whole
    → AreSmallest all (cond v c.whole (group c.from c.size (further c.tree nothing)))
one_by all c true e h = h
one_by all c false e h = sym e

runs_small : (all : List Item) (i : ℕ) (rs : List (List Child)) (cs : List Child) → AreRuns (is_tied all) rs cs → Chain all i cs
    → AllSmallest all (of_runs rs)
runs_small all i [] cs h k = tt
runs_small all i ([] ∷ rs) cs h k = absurd h.2
runs_small all i ((c ∷ []) ∷ rs) cs h k =
    let l : Chain all i (c ∷ h.0) = subst (λ (ds : List Child). Chain all i ds) h.1 k in
    (one_by all c c.clean l.2 l.3, runs_small all (c.from + c.size) rs h.0 h.3 l.4)
runs_small all i ((c ∷ d ∷ ds) ∷ rs) cs h k =
    let l : Chain all i (c ∷ d ∷ ds ++ h.0) = subst (λ (es : List Child). Chain all i es) h.1 k in
    (no_free all i c (d ∷ ds) h.0 h.2 l, runs_small all (c.from + size_of_all (c ∷ d ∷ ds)) rs h.0 h.3 (chain_rest all i c (d ∷ ds) h.0 l))

mutual
  pub smallest : (all : List Item) (n : ℕ) (t : ItemTree) → AreSmallest all (grouped all n t)
  smallest all n (inner h o ts c) =
      let cs : List Child = children all (n + length o) ts in
      runs_small all (n + length o) (runs (is_tied all) cs) cs (runs_are (is_tied all) cs) (chained all (n + length o) ts)

  chained : (all : List Item) (n : ℕ) (ts : ItemTrees) → Chain all n (children all n ts)
  chained all n nothing = tt
  chained all n (further t ts) = (refl, refl, refl, smallest all n t, chained all (n + length (tree_items t)) ts)
