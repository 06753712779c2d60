use Rattle.std.proofs.Common.{◌≡◌, ◌++◌, drop}
use Rattle.wt_slices.specs.Steps.{passed}
use Rattle.wt_slices.specs.Views.{steps_view}
use Rattle.wt_slices.specs.Views.{child_views}
use Rattle.wt_slices.proofs.steps.push_passed.Given as goal

abbrev pub invariant-loop-child : goal.invariant-loop-child
invariant-loop-child l =
    steps_view l.out.items ++ passed l.holder (child_views (drop l.child-index l.nodes)) ≡ steps_view l.fn.out.items ++ passed l.holder (child_views l.nodes)
