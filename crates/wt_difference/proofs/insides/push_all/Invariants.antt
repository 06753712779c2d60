use Rattle.std.proofs.Common.{◌≡◌, drop}
use Rattle.wt_recut.specs.Recutting.{appended}
use Rattle.wt_tree.specs.View.{views}
use Rattle.wt_difference.specs.Views.{child_views}
use Rattle.wt_difference.proofs.insides.push_all.Given as goal

abbrev pub invariant-loop-node : goal.invariant-loop-node
invariant-loop-node l = appended (child_views l.out.items) (views (drop l.node-index l.nodes)) ≡ appended (child_views l.fn.out.items) (views l.nodes)
