use Rattle.std.proofs.Common.{◌≡◌, ◌+◌, drop}
use Rattle.wt_inline.specs.ItemTree.{forest}
use Rattle.wt_inline.specs.View.{item_tree, item_trees}
use Rattle.wt_annotated.specs.Pieces.{outer_calls}
use Rattle.wt_annotated.specs.Progress.{past}
use Rattle.wt_annotated.proofs.TreeWalks.{nodes_in, nodes_in_all, held_in_all}
use Rattle.wt_annotated.proofs.tree_walk.+walking.Given as goal

-- what is left to read leads to the same place
abbrev pub invariant-past_trees-loop-tree : goal.invariant-past_trees-loop-tree
invariant-past_trees-loop-tree l = past (outer_calls l.calls) l.at (held_in_all (drop l.tree-index l.trees)) ≡ past (outer_calls l.calls) l.fn.from (held_in_all l.trees)

abbrev pub decreases-past_tree : goal.decreases-past_tree
decreases-past_tree l = nodes_in (item_tree l.tree.now)

abbrev pub decreases-past_trees : goal.decreases-past_trees
decreases-past_trees l = 1 + nodes_in_all (forest (item_trees l.trees.now))
