use Rattle.std.proofs.Common.{◌≡◌}
use Rattle.std.specs.Vec.Iter.{into_iter_items}
use Rattle.wt_recut.specs.Recutting.{appended}
use Rattle.wt_tree.specs.View.{views}
use Rattle.wt_checks.specs.View.{indexed}
use Rattle.wt_difference.specs.Remarked.{all_remarked}
use Rattle.wt_difference.proofs.remarking.+remarking.Given as goal

abbrev pub invariant-all_remarked-loop-node : goal.invariant-all_remarked-loop-node
invariant-all_remarked-loop-node l =
    appended (views l.out.items) (all_remarked (indexed l.index) l.holder (views (into_iter_items l.node-iterator)))
    ≡ all_remarked (indexed l.index) l.holder (views (into_iter_items l.initial.node-iterator))
