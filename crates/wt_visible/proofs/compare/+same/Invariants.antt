use Rattle.std.proofs.Common.{◌≡◌, ◌≤◌, ◌+◌, ◌*◌, length, take}
use Rattle.wt_visible.specs.Views.{child_view, children_view, node_view}
use Rattle.wt_visible.proofs.Sizes.{size, total}
use Rattle.wt_visible.proofs.compare.+same.Given as goal

abbrev pub decreases-same_nodes : goal.decreases-same_nodes
decreases-same_nodes l = 4 * size (node_view l.a)

abbrev pub decreases-is_same : goal.decreases-is_same
decreases-is_same l = 4 * size (child_view l.a.now) + 1

abbrev pub decreases-common_len : goal.decreases-common_len
decreases-common_len l = 4 * total (children_view l.left.now) + 2

abbrev pub decreases-same_children : goal.decreases-same_children
decreases-same_children l = 4 * total (children_view l.left.now) + 3

abbrev pub invariant-common_len-loop-at : goal.invariant-common_len-loop-at
invariant-common_len-loop-at l = record {
  within : l.at ≤ length l.right;
  same : take l.at (children_view l.left) ≡ take l.at (children_view l.right);
}
