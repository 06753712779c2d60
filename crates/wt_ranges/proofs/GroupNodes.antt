-- Groups of children.
use Rattle.std.proofs.Common.{◌≡◌, ◌+◌, ◌^◌, ◌<◌, List, [], ◌∷◌, length, refl, sym, ap, ◌∙◌, arith}
use Rattle.wt_tree.specs.Tree.{Tree}
use Rattle.wt_span.specs.Items.{Item}
use Rattle.wt_span.specs.Origins.{OuterCall}
use Rattle.wt_inline.specs.ItemTree.{further, forest, held_by_all}
use Rattle.wt_inline.specs.View.{item_tree, item_trees}
use Rattle.wt_inline.specs.declared.tree.PieceTree.{PieceTree}
use Rattle.wt_runs.specs.declared.child.Child.{Child}
use Rattle.wt_ranges.specs.declared.group_node.Start.{Start}
use Rattle.wt_runs.specs.Children.{nears_of}
use Rattle.wt_annotated.specs.GroupData.{group_data}
use Rattle.wt_ranges.specs.Kept.{NearsFit, group_start, trees_of}
use Rattle.wt_annotated.specs.Seams.{text_from}
use Rattle.wt_annotated.specs.Walked.{near_nodes, group_at, near_group}

nodes_are : (calls : List OuterCall) (cs : List Child) → near_nodes (nears_of calls cs) ≡ forest (item_trees (trees_of cs))
nodes_are calls [] = refl
nodes_are calls (c ∷ cs) = ap (further (item_tree c.tree)) (nodes_are calls cs)

start_is : (calls : List OuterCall) (cs : List Child)
    → group_at calls (group_data calls) (group_start cs).before (group_start cs).byte (near_nodes (nears_of calls cs))
    ≡ near_group calls (group_data calls) (nears_of calls cs)
start_is calls [] = refl
start_is calls (c ∷ cs) = refl

pub group_is : (calls : List OuterCall) (cs : List Child) (ts : List PieceTree) (s : Start) (u : Tree) → ts ≡ trees_of cs → s ≡ group_start cs
    → u ≡ group_at calls (group_data calls) s.before s.byte (forest (item_trees ts)) → u ≡ near_group calls (group_data calls) (nears_of calls cs)
group_is calls cs ts s u e f h =
    h
    ∙ ap (λ (x : Start). group_at calls (group_data calls) x.before x.byte (forest (item_trees ts))) f
    ∙ ap (λ (x : List PieceTree). group_at calls (group_data calls) (group_start cs).before (group_start cs).byte (forest (item_trees x))) e
    ∙ ap (group_at calls (group_data calls) (group_start cs).before (group_start cs).byte) (sym (nodes_are calls cs))
    ∙ start_is calls cs

start_fits : (calls : List OuterCall) (cs : List Child) → NearsFit calls (nears_of calls cs)
    → (group_start cs).byte + length (text_from calls (group_start cs).before (held_by_all (near_nodes (nears_of calls cs)))) < 2 ^ 32
start_fits calls [] h = omega arith
start_fits calls (c ∷ cs) h = h

pub group_fits : (calls : List OuterCall) (cs : List Child) (ts : List PieceTree) (s : Start) (xs : List Item) → NearsFit calls (nears_of calls cs)
    → ts ≡ trees_of cs → s ≡ group_start cs → xs ≡ held_by_all (forest (item_trees ts)) → s.byte + length (text_from calls s.before xs) < 2 ^ 32
group_fits calls cs ts s xs h e f i =
    let held : xs ≡ held_by_all (near_nodes (nears_of calls cs)) = i ∙ ap (λ (x : List PieceTree). held_by_all (forest (item_trees x))) e
    ∙ ap held_by_all (sym (nodes_are calls cs)) in
    let same : s.byte + length (text_from calls s.before xs)
    ≡ (group_start cs).byte + length (text_from calls (group_start cs).before (held_by_all (near_nodes (nears_of calls cs)))) =
    ap (λ (x : Start). x.byte + length (text_from calls x.before xs)) f
    ∙ ap (λ (ys : List Item). (group_start cs).byte + length (text_from calls (group_start cs).before ys)) held in
    let w = start_fits calls cs h in
    omega (arith, same, w)
