use Rattle.std.proofs.Common.{◌+◌, take}
use Rattle.std.specs.List.{flat_map}
use Rattle.wt_tree.specs.View.{view, views}
use Rattle.wt_lint.specs.Nodes.{nodes}
use Rattle.wt_lint.specs.Search.{Takes}
use Rattle.wt_lint.proofs.Walking.{size, size_of_all}
use Rattle.wt_lint.proofs.walk.+walk.Given as goal

abbrev pub invariant-push_of_all-loop-node : goal.invariant-push_of_all-loop-node
invariant-push_of_all-loop-node l = Takes l.page (flat_map (λ n. nodes l.place (view n)) (take l.node-index l.nodes)) l.initial.search l.search

abbrev pub decreases-push_of_tree : goal.decreases-push_of_tree
decreases-push_of_tree l = size (view l.node.now)

abbrev pub decreases-push_of_all : goal.decreases-push_of_all
decreases-push_of_all l = 1 + size_of_all (views l.nodes.now)
