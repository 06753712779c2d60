use Rattle.std.proofs.Common.{◌≡◌, ◌++◌, map}
use Rattle.std.specs.Vec.Iter.{into_iter_items}
use Rattle.wt_tree.specs.View.{view}
use Rattle.wt_inline.specs.View.{item_tree}
use Rattle.wt_annotated.specs.Annotated.{unplaced}
use Rattle.wt_annotated.proofs.unplaced.+unplacing.Given as goal

abbrev pub invariant-unplaced_nodes-loop-tree : goal.invariant-unplaced_nodes-loop-tree
invariant-unplaced_nodes-loop-tree l =
    map view l.nodes ++ map (λ n. unplaced (item_tree n)) (into_iter_items l.tree-iterator)
    ≡ map (λ n. unplaced (item_tree n)) (into_iter_items l.initial.tree-iterator)
