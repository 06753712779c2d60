use Rattle.std.proofs.Common.{◌++◌, false, drop}
use Rattle.wt_tree.specs.View.{view, views}
use Rattle.wt_checks.specs.View.{indexed}
use Rattle.wt_difference.specs.Views.{child_views}
use Rattle.wt_places.specs.Places.{along, begun}
use Rattle.wt_places.proofs.Walking.{HasCome}
use Rattle.wt_places.proofs.slots.+placing.Given as goal

abbrev pub invariant-push_along-loop-at : goal.invariant-push_along-loop-at
invariant-push_along-loop-at l =
    HasCome (indexed l.index) (view l.node) l.children l.nodes l.from l.turns.items l.reached l.passed l.at l.out.items
    (l.initial.out.items ++ along (indexed l.index) (view l.node) false (begun (view l.node)) (child_views l.children) (views (drop l.from l.nodes)))
