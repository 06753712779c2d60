use Rattle.std.proofs.Common.{◌≡◌, ◌++◌, length, map}
use Rattle.std.specs.Prelude.{reverse}
use Rattle.wt_inline.specs.View.{item_trees}
use Rattle.wt_ranges.specs.Followers.{tree_after, trees_after}
use Rattle.wt_ranges.proofs.children.with_followers.Given as goal

abbrev pub invariant-loop-tree : goal.invariant-loop-tree
invariant-loop-tree l = trees_after (item_trees l.trees.items) l.after ++ reverse (map tree_after l.followed.items)
    ≡ trees_after (item_trees l.fn.trees) l.fn.after

abbrev pub decreases-loop-tree : goal.decreases-loop-tree
decreases-loop-tree l = length l.trees.items
