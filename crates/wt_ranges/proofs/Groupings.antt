-- Kept nodes and groups, made one after another.
use Rattle.std.proofs.Common.{◌≡◌, ℕ, ◌+◌, ◌^◌, ◌<◌, ◌≤◌, Option, List, [], ◌∷◌, ◌++◌, length, map, refl, sym, ap, ◌∙◌, subst, arith, length-append, append_assoc, append-nil}
use Rattle.std.specs.List.{AllByRecursion, flat_map}
use Rattle.std.proofs.lemmas.List.{map-append}
use Rattle.wt_tree.specs.declared.node.Node.{Node}
use Rattle.wt_tree.specs.Tree.{Tree, trees}
use Rattle.wt_tree.specs.View.{view, views}
use Rattle.wt_span.specs.Items.{Item}
use Rattle.wt_span.specs.Origins.{OuterCall}
use Rattle.wt_inline.specs.ItemTree.{ItemTree, ItemTrees, nothing, further, forest, tree_items, held_by_all}
use Rattle.wt_inline.specs.View.{item_tree, item_trees}
use Rattle.wt_inline.specs.declared.tree.PieceTree.{PieceTree, out-PieceTree}
use Rattle.wt_runs.specs.declared.child.Child.{Child}
use Rattle.wt_ranges.specs.declared.kept.Frame.{Frame}
use Rattle.wt_runs.specs.declared.run.Run.{Run}
use Rattle.wt_runs.specs.Children.{near_of, nears_of, children_at}
use Rattle.wt_annotated.specs.GroupData.{group_data}
use Rattle.wt_ranges.specs.Kept.{Fits, NearsFit, RunFits, IsFrame}
use Rattle.wt_runs.specs.RunTrees.{run_children, run_tree, AreRunsOf}
use Rattle.wt_annotated.specs.Seams.{last_of, text_from}
use Rattle.wt_annotated.specs.TreeWalk.{opened}
use Rattle.wt_annotated.specs.Walked.{Near, near_nodes, near_runs, near}
use Rattle.wt_annotated.proofs.HeldPieces.{item_tree_out}
use Rattle.wt_ranges.proofs.KeptNodes.{parts_fit}
use Rattle.wt_annotated.proofs.Seams.{last_append, text_append_from}
use Rattle.wt_annotated.proofs.TreeWalks.{nodes_in, nodes_in_all}

-- ---- how much is left

abbrev pub child_nodes : List Child → ℕ
child_nodes [] = 0
child_nodes (c ∷ cs) = nodes_in (item_tree c.tree) + child_nodes cs

abbrev pub run_size : Run → ℕ
run_size r = child_nodes (run_children r)

abbrev pub runs_size : List Run → ℕ
runs_size [] = 0
runs_size (r ∷ rs) = run_size r + runs_size rs

child_append : (cs ds : List Child) → child_nodes (cs ++ ds) ≡ child_nodes cs + child_nodes ds
child_append [] ds = omega arith
child_append (c ∷ cs) ds = omega (arith, child_append cs ds)

runs_joined : (rs : List Run) → runs_size rs ≡ child_nodes (flat_map run_children rs)
runs_joined [] = refl
runs_joined (r ∷ rs) = omega (arith, runs_joined rs, child_append (run_children r) (flat_map run_children rs))

abbrev near_size : List Near → ℕ
near_size [] = 0
near_size (c ∷ cs) = nodes_in c.tree + near_size cs

child_near : (calls : List OuterCall) (cs : List Child) → child_nodes cs ≡ near_size (nears_of calls cs)
child_near calls [] = refl
child_near calls (c ∷ cs) = ap (λ n. nodes_in (item_tree c.tree) + n) (child_near calls cs)

near_is : (calls : List OuterCall) (o : Option ℕ) (at : ℕ) (p : Option ℕ) (ts : ItemTrees)
    → near_size (near calls (group_data calls) o at p ts) ≡ nodes_in_all ts
near_is calls o at p nothing = refl
near_is calls o at p (further t ts) = ap (λ n. nodes_in t + n) (near_is calls (last_of o (tree_items t)) (at + length (text_from calls o (tree_items t))) p ts)

pub fewer : (calls : List OuterCall) (n : PieceTree) (o : Option ℕ) (at : ℕ) (p : Option ℕ) (cs : List Child) (rs : List Run)
    → nears_of calls cs ≡ children_at calls o at p (item_trees (out-PieceTree n).children) → AreRunsOf rs cs → 2 + runs_size rs < nodes_in (item_tree n)
fewer calls n o at p cs rs e a =
    let ts : ItemTrees = forest (item_trees (out-PieceTree n).children) in
    let s : runs_size rs ≡ nodes_in_all ts = runs_joined rs ∙ ap child_nodes a.joined ∙ child_near calls cs ∙ ap near_size e ∙ near_is calls o at p ts in
    let w : nodes_in (item_tree n) ≡ 3 + nodes_in_all ts = ap nodes_in (item_tree_out n) in
    omega (arith, s, w)

-- ---- what fits

abbrev Sits : List OuterCall → Option ℕ → ℕ → List Near → Type 0
Sits calls o at [] = Unit {0}
Sits calls o at (c ∷ cs) = (c.before ≡ o) × (c.byte ≡ at) × Sits calls (last_of o (tree_items c.tree)) (at + length (text_from calls o (tree_items c.tree))) cs

nears_sit : (calls : List OuterCall) (o : Option ℕ) (at : ℕ) (p : Option ℕ) (ts : ItemTrees) → Sits calls o at (near calls (group_data calls) o at p ts)
nears_sit calls o at p nothing = tt
nears_sit calls o at p (further t ts) = (refl, refl, nears_sit calls (last_of o (tree_items t)) (at + length (text_from calls o (tree_items t))) p ts)

nears_held : (calls : List OuterCall) (o : Option ℕ) (at : ℕ) (p : Option ℕ) (ts : ItemTrees) → near_nodes (near calls (group_data calls) o at p ts) ≡ ts
nears_held calls o at p nothing = refl
nears_held calls o at p (further t ts) = ap (further t) (nears_held calls (last_of o (tree_items t)) (at + length (text_from calls o (tree_items t))) p ts)

held_append : (cs ds : List Near) → held_by_all (near_nodes (cs ++ ds)) ≡ held_by_all (near_nodes cs) ++ held_by_all (near_nodes ds)
held_append [] ds = refl
held_append (c ∷ cs) ds = ap (λ xs. tree_items c.tree ++ xs) (held_append cs ds)
    ∙ sym (append_assoc (tree_items c.tree) (held_by_all (near_nodes cs)) (held_by_all (near_nodes ds)))

-- the bytes and the call behind some of them
abbrev bytes_of_all : List OuterCall → Option ℕ → List Near → ℕ
bytes_of_all calls o cs = length (text_from calls o (held_by_all (near_nodes cs)))

bytes_more : (calls : List OuterCall) (o : Option ℕ) (xs ys : List Item)
    → length (text_from calls o (xs ++ ys)) ≡ length (text_from calls o xs) + length (text_from calls (last_of o xs) ys)
bytes_more calls o xs ys = ap length (text_append_from calls o xs ys) ∙ length-append (text_from calls o xs) (text_from calls (last_of o xs) ys)

sits_rest : (calls : List OuterCall) (o : Option ℕ) (at : ℕ) (cs ds : List Near) → Sits calls o at (cs ++ ds)
    → Sits calls (last_of o (held_by_all (near_nodes cs))) (at + bytes_of_all calls o cs) ds
sits_rest calls o at [] ds s = let e : at ≡ at + 0 = omega arith in subst (λ (n : ℕ). Sits calls o n ds) e s
sits_rest calls o at (c ∷ cs) ds s =
    let r = sits_rest calls (last_of o (tree_items c.tree)) (at + length (text_from calls o (tree_items c.tree))) cs ds s.2 in
    let a : last_of (last_of o (tree_items c.tree)) (held_by_all (near_nodes cs)) ≡ last_of o (held_by_all (near_nodes (c ∷ cs))) =
    sym (last_append o (tree_items c.tree) (held_by_all (near_nodes cs))) in
    let b : at + length (text_from calls o (tree_items c.tree)) + bytes_of_all calls (last_of o (tree_items c.tree)) cs ≡ at + bytes_of_all calls o (c ∷ cs) =
    omega (arith, bytes_more calls o (tree_items c.tree) (held_by_all (near_nodes cs))) in
    subst (λ (n : ℕ). Sits calls (last_of o (held_by_all (near_nodes (c ∷ cs)))) n ds) b
    (subst (λ (q : Option ℕ). Sits calls q (at + length (text_from calls o (tree_items c.tree)) + bytes_of_all calls (last_of o (tree_items c.tree)) cs) ds)
    a r)

bytes_parts : (calls : List OuterCall) (o : Option ℕ) (cs ds : List Near)
    → bytes_of_all calls o (cs ++ ds) ≡ bytes_of_all calls o cs + bytes_of_all calls (last_of o (held_by_all (near_nodes cs))) ds
bytes_parts calls o cs ds = ap (λ xs. length (text_from calls o xs)) (held_append cs ds)
    ∙ bytes_more calls o (held_by_all (near_nodes cs)) (held_by_all (near_nodes ds))

first_fits : (calls : List OuterCall) (o : Option ℕ) (at : ℕ) (cs ds : List Near) → Sits calls o at (cs ++ ds) → at + bytes_of_all calls o cs < 2 ^ 32
    → NearsFit calls cs
first_fits calls o at [] ds s w = tt
first_fits calls o at (c ∷ cs) ds s w =
    let e : bytes_of_all calls c.before (c ∷ cs) ≡ bytes_of_all calls o (c ∷ cs) = ap (λ (q : Option ℕ). bytes_of_all calls q (c ∷ cs)) s.0 in
    omega (arith, s.1, w, e)

runs_fit : (calls : List OuterCall) (o : Option ℕ) (at : ℕ) (rs : List Run) (cs : List Child) → flat_map run_children rs ≡ cs
    → Sits calls o at (nears_of calls cs) → at + bytes_of_all calls o (nears_of calls cs) < 2 ^ 32 → AllByRecursion (RunFits calls) rs
runs_fit calls o at [] cs e s w = tt
runs_fit calls o at (r ∷ rs) cs e s w =
    let one : List Near = nears_of calls (run_children r) in
    let rest : List Near = nears_of calls (flat_map run_children rs) in
    let m : nears_of calls cs ≡ one ++ rest = ap (nears_of calls) (sym e) ∙ map-append (near_of calls) (run_children r) (flat_map run_children rs) in
    let t : Sits calls o at (one ++ rest) = subst (λ (ns : List Near). Sits calls o at ns) m s in
    let v : bytes_of_all calls o (nears_of calls cs) ≡ bytes_of_all calls o one + bytes_of_all calls (last_of o (held_by_all (near_nodes one))) rest =
    ap (bytes_of_all calls o) m ∙ bytes_parts calls o one rest in (
      first_fits calls o at one rest t (omega (arith, v, w)),
      runs_fit calls (last_of o (held_by_all (near_nodes one))) (at + bytes_of_all calls o one) rs (flat_map run_children rs) refl
          (sits_rest calls o at one rest t) (omega (arith, v, w)),
    )

pub all_fit : (calls : List OuterCall) (o : Option ℕ) (at : ℕ) (p : Option ℕ) (ts : List ItemTree) (cs : List Child) (rs : List Run)
    → nears_of calls cs ≡ children_at calls o at p ts → at + length (text_from calls o (held_by_all (forest ts))) < 2 ^ 32 → AreRunsOf rs cs
    → AllByRecursion (RunFits calls) rs
all_fit calls o at p ts cs rs e w a =
    let s : Sits calls o at (nears_of calls cs) = subst (λ (ns : List Near). Sits calls o at ns) (sym e) (nears_sit calls o at p (forest ts)) in
    let b : bytes_of_all calls o (nears_of calls cs) ≡ length (text_from calls o (held_by_all (forest ts))) = ap (bytes_of_all calls o) e
    ∙ ap (λ us. length (text_from calls o (held_by_all us))) (nears_held calls o at p (forest ts)) in
    runs_fit calls o at rs cs a.joined s (omega (arith, w, b))

-- the inside of a node that fits
pub inside_fits : (calls : List OuterCall) (c : Child) (f : Frame) → Fits calls c → IsFrame calls c f
    → f.byte + length (text_from calls f.before (held_by_all (forest (item_trees (out-PieceTree c.tree).children)))) < 2 ^ 32
inside_fits calls c f h g =
    let i : List Item = held_by_all (forest (item_trees (out-PieceTree c.tree).children)) in
    let e : length (text_from calls f.before i) ≡ length (text_from calls (opened c.before c.tree) i) = ap (λ o. length (text_from calls o i)) g.before in
    omega (arith, h, g.byte, e, parts_fit calls c.before c.tree)

-- a child that is a run by itself
pub alone_fits : (calls : List OuterCall) (c : Child) → NearsFit calls (nears_of calls (c ∷ [])) → Fits calls c
alone_fits calls c h =
    let e : length (text_from calls c.before (tree_items (item_tree c.tree) ++ [])) ≡ length (text_from calls c.before (tree_items (item_tree c.tree))) =
    ap (λ xs. length (text_from calls c.before xs)) (append-nil (tree_items (item_tree c.tree))) in
    omega (arith, h, e)
