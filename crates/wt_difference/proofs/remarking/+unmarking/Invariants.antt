use Rattle.std.proofs.Common.{◌≡◌}
use Rattle.std.specs.Vec.Iter.{into_iter_items}
use Rattle.wt_recut.specs.Recutting.{appended}
use Rattle.wt_tree.specs.View.{views}
use Rattle.wt_checks.specs.WithoutMarks.{all_unmarked}
use Rattle.wt_difference.proofs.remarking.+unmarking.Given as goal

abbrev pub invariant-all_unmarked-loop-node : goal.invariant-all_unmarked-loop-node
invariant-all_unmarked-loop-node l = appended (views l.out.items) (all_unmarked (views (into_iter_items l.node-iterator)))
    ≡ all_unmarked (views (into_iter_items l.initial.node-iterator))
