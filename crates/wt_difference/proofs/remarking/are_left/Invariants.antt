use Rattle.std.proofs.Common.{◌≡◌, drop}
use Rattle.wt_tree.specs.View.{views}
use Rattle.wt_difference.specs.Remarked.{are_left}
use Rattle.wt_difference.proofs.remarking.are_left.Given as goal

abbrev pub invariant-loop-node : goal.invariant-loop-node
invariant-loop-node l = are_left (views (drop l.node-index l.nodes)) ≡ are_left (views l.nodes)
