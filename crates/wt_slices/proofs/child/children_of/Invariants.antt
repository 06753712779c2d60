use Rattle.std.proofs.Common.{◌≡◌, map, take}
use Rattle.wt_tree.specs.View.{view}
use Rattle.wt_slices.specs.Views.{child_trees}
use Rattle.wt_slices.proofs.child.children_of.Given as goal

abbrev pub invariant-loop-child : goal.invariant-loop-child
invariant-loop-child l = child_trees l.out.items ≡ map view (take l.child-index l.child-items)
