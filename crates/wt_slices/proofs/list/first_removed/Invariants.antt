use Rattle.std.proofs.Common.{◌≡◌, drop}
use Rattle.wt_slices.specs.ListSlices.{first_removed}
use Rattle.wt_slices.specs.Views.{child_views}
use Rattle.wt_slices.proofs.list.first_removed.Given as goal

abbrev pub invariant-loop-child : goal.invariant-loop-child
invariant-loop-child l = first_removed l.number (child_views l.nodes) ≡ first_removed l.number (child_views (drop l.child-index l.nodes))
