use Rattle.std.proofs.Common.{◌≡◌, drop}
use Rattle.wt_difference.specs.Views.{child_views}
use Rattle.wt_places.specs.Places.{some_count}
use Rattle.wt_places.proofs.slots.some_count.Given as goal

abbrev pub invariant-loop-child : goal.invariant-loop-child
invariant-loop-child l = some_count (child_views (drop l.child-index l.children)) ≡ some_count (child_views l.children)
