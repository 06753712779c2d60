use Rattle.std.proofs.Common.{◌+◌, map}
use Rattle.std.specs.Vec.Iter.{into_iter_items}
use Rattle.wt_tree.specs.View.{view}
use Rattle.wt_inline.specs.ItemTree.{forest}
use Rattle.wt_inline.specs.View.{item_tree, item_trees}
use Rattle.wt_annotated.proofs.Passes.{MadeSoFar, nodes_in, nodes_in_all}
use Rattle.wt_annotated.proofs.pass.+annotating.Given as goal

abbrev pub invariant-annotated_all-loop-tree : goal.invariant-annotated_all-loop-tree
invariant-annotated_all-loop-tree l =
    MadeSoFar (map view l.nodes) l.behind.place l.behind.next (item_trees (into_iter_items l.tree-iterator)) l.fn.at.place
    l.fn.at.next (item_trees (into_iter_items l.initial.tree-iterator))

abbrev pub decreases-annotated_node : goal.decreases-annotated_node
decreases-annotated_node l = nodes_in (item_tree l.tree)

abbrev pub decreases-annotated_all : goal.decreases-annotated_all
decreases-annotated_all l = 1 + nodes_in_all (forest (item_trees l.trees))
