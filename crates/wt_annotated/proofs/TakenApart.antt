-- A tree with groups gives back the tree that it comes from.
use Rattle.std.proofs.Common.{◌≡◌, ℕ, ◌+◌, Bool, true, false, List, [], ◌∷◌, ◌++◌, length, take, drop, refl, sym, ap, ◌∙◌, subst, cond, append_assoc, append-nil}
use Rattle.wt_span.specs.Items.{Item}
use Rattle.wt_span.specs.Runs.{runs, AreRuns}
use Rattle.wt_span.proofs.RunLaws.{runs_are}
use Rattle.wt_inline.specs.ItemTree.{ItemTree, inner, ItemTrees, nothing, further, tree_items, held_by_all}
use Rattle.wt_annotated.specs.Grouped.{group, Child, is_tied, nodes_of, of_runs, grouped, children}
use Rattle.wt_annotated.specs.Ungrouped.{joined, ungrouped, all_ungrouped}
use Rattle.wt_annotated.proofs.Calls.{behind}
use Rattle.wt_annotated.proofs.PlainView.{children_nodes}

front : (xs ys : List Item) → take (length xs) (xs ++ ys) ≡ xs
front [] ys = refl
front (x ∷ xs) ys = ap (λ zs. x ∷ zs) (front xs ys)

nodes_joined : (cs ds : List Child) → nodes_of (cs ++ ds) ≡ joined (nodes_of cs) (nodes_of ds)
nodes_joined [] ds = refl
nodes_joined (c ∷ cs) ds = ap (further c.tree) (nodes_joined cs ds)

-- each child is given back where it is kept
abbrev Given : List Item → List Child → Type 0
Given all [] = Unit {0}
Given all (c ∷ cs) = ((rest : ItemTrees) → ungrouped all c.whole rest ≡ further c.tree rest) × Given all cs

given_rest : (all : List Item) (cs ds : List Child) → Given all (cs ++ ds) → Given all ds
given_rest all [] ds h = h
given_rest all (c ∷ cs) ds h = given_rest all cs ds h.1

one_by : (all : List Item) (c : Child) (rest : ItemTrees) (v : Bool) → ungrouped all c.whole rest ≡ further c.tree rest
    → ungrouped all (cond v c.whole (group c.from c.size (further c.tree nothing))) rest ≡ further c.tree rest
one_by all c rest true e = e
one_by all c rest false e = refl

runs_given : (all : List Item) (rs : List (List Child)) (cs : List Child) → AreRuns (is_tied all) rs cs → Given all cs
    → all_ungrouped all (of_runs rs) ≡ nodes_of cs
runs_given all [] cs h g = sym (ap nodes_of h)
runs_given all ([] ∷ rs) cs h g = absurd h.2
runs_given all ((c ∷ []) ∷ rs) cs h g =
    let l : Given all (c ∷ h.0) = subst (λ (ds : List Child). Given all ds) h.1 g in
    one_by all c (all_ungrouped all (of_runs rs)) c.clean (l.0 (all_ungrouped all (of_runs rs)))
    ∙ ap (further c.tree) (runs_given all rs h.0 h.3 l.1)
    ∙ sym (ap nodes_of h.1)
runs_given all ((c ∷ d ∷ ds) ∷ rs) cs h g =
    let l : Given all (c ∷ d ∷ ds ++ h.0) = subst (λ (es : List Child). Given all es) h.1 g in
    ap (joined (nodes_of (c ∷ d ∷ ds))) (runs_given all rs h.0 h.3 (given_rest all (c ∷ d ∷ ds) h.0 l))
    ∙ sym (nodes_joined (c ∷ d ∷ ds) h.0)
    ∙ sym (ap nodes_of h.1)

mutual
  given_back : (all : List Item) (n : ℕ) (t : ItemTree) (after : List Item) (rest : ItemTrees) → drop n all ≡ tree_items t ++ after
      → ungrouped all (grouped all n t) rest ≡ further t rest
  given_back all n (inner h o ts c) after rest e =
      let i : List Item = held_by_all ts in
      let one : drop n all ≡ o ++ ((i ++ c) ++ after) = e ∙ append_assoc o (i ++ c) after in
      let two : drop (n + length o) all ≡ i ++ (c ++ after) = behind all n o ((i ++ c) ++ after) one ∙ append_assoc i c after in
      let three : drop (n + length o + length i) all ≡ c ++ after = behind all (n + length o) i (c ++ after) two in
      let opening : take (length o) (drop n all) ≡ o = ap (take (length o)) one ∙ front o ((i ++ c) ++ after) in
      let closing : take (length c) (drop (n + length o + length i) all) ≡ c = ap (take (length c)) three ∙ front c after in
      let cs : List Child = children all (n + length o) ts in
      let inside : all_ungrouped all (of_runs (runs (is_tied all) cs)) ≡ ts =
      runs_given all (runs (is_tied all) cs) cs (runs_are (is_tied all) cs) (all_given all (n + length o) ts (c ++ after) two)
      ∙ children_nodes all (n + length o) ts in
      ap (λ xs. further (inner h xs (all_ungrouped all (of_runs (runs (is_tied all) cs))) (take (length c) (drop (n + length o + length i) all))) rest)
      opening
      ∙ ap (λ xs. further (inner h o (all_ungrouped all (of_runs (runs (is_tied all) cs))) xs) rest) closing
      ∙ ap (λ us. further (inner h o us c) rest) inside

  all_given : (all : List Item) (n : ℕ) (ts : ItemTrees) (after : List Item) → drop n all ≡ held_by_all ts ++ after → Given all (children all n ts)
  all_given all n nothing after e = tt
  all_given all n (further t ts) after e =
      let one : drop n all ≡ tree_items t ++ (held_by_all ts ++ after) = e ∙ append_assoc (tree_items t) (held_by_all ts) after in (
        λ rest. given_back all n t (held_by_all ts ++ after) rest one,
        all_given all (n + length (tree_items t)) ts after
            (behind all n (tree_items t) (held_by_all ts ++ after) one),
      )

pub taken_apart : (t : ItemTree) → ungrouped (tree_items t) (grouped (tree_items t) 0 t) nothing ≡ further t nothing
taken_apart t = given_back (tree_items t) 0 t [] nothing (sym (append-nil (tree_items t)))
