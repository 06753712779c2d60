use Rattle.std.proofs.Common.{◌≡◌, drop}
use Rattle.wt_tree.specs.Opened.{opened}
use Rattle.wt_recut.specs.Recutting.{appended}
use Rattle.wt_tree.specs.View.{views}
use Rattle.wt_difference.specs.Views.{child_views}
use Rattle.wt_difference.proofs.insides.+opening.Given as goal

abbrev pub invariant-push_all_opened-loop-node : goal.invariant-push_all_opened-loop-node
invariant-push_all_opened-loop-node l =
    appended (child_views l.out.items) (opened (views (drop l.node-index l.nodes)))
    ≡ appended (child_views l.initial.out.items) (opened (views l.nodes))
