use Rattle.std.proofs.Common.{◌≡◌, ◌≤◌, ◌++◌, drop, length}
use Rattle.wt_tree.specs.View.{views}
use Rattle.wt_slices.specs.Steps.{steps}
use Rattle.wt_slices.specs.Views.{steps_view}
use Rattle.wt_slices.specs.Views.{child_views}
use Rattle.wt_slices.proofs.steps.steps_along.Given as goal

abbrev pub invariant-loop-child : goal.invariant-loop-child
invariant-loop-child l =
    (l.from ≤ length l.old)
    × (steps_view l.steps.items ++ steps l.holder (child_views (drop l.from l.old)) (views (drop l.child-index l.new)) ≡ steps l.holder (child_views l.old) (views l.new))
