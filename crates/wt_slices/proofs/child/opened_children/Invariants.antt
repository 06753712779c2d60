use Rattle.std.proofs.Common.{◌≡◌, take}
use Rattle.wt_slices.specs.Views.{child_trees}
use Rattle.wt_slices.proofs.Opening.{opened_list}
use Rattle.wt_slices.proofs.child.opened_children.Given as goal

abbrev pub invariant-loop-child : goal.invariant-loop-child
invariant-loop-child l = child_trees l.out.items ≡ opened_list (take l.child-index l.child-items)
