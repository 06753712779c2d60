use Rattle.std.proofs.Common.{◌≡◌, ◌+◌, drop}
use Rattle.wt_tree.specs.Tiling.{NoneIsGroup}
use Rattle.wt_tree.specs.View.{view, views}
use Rattle.wt_selser.specs.GroupFaults.{has_faulty_group}
use Rattle.wt_selser.proofs.GroupBorders.{weight, weights}
use Rattle.wt_selser.proofs.group_fault.+faults.Given as goal

-- what is left to look through decides, and where no node is a group none that is left is
abbrev pub invariant-has_faulty_group-loop-node : goal.invariant-has_faulty_group-loop-node
invariant-has_faulty_group-loop-node l =
    (has_faulty_group l.page (views l.nodes) ≡ has_faulty_group l.page (views (drop l.node-index l.nodes)))
    × (NoneIsGroup (views l.nodes) → NoneIsGroup (views (drop l.node-index l.nodes)))

abbrev pub decreases-is_faulty_node : goal.decreases-is_faulty_node
decreases-is_faulty_node l = weight (view l.node.now)

abbrev pub decreases-has_faulty_group : goal.decreases-has_faulty_group
decreases-has_faulty_group l = 1 + weights (views l.nodes.now)
