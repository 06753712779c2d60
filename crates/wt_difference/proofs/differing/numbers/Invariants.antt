use Rattle.std.proofs.Common.{◌≡◌, ◌++◌, drop}
use Rattle.wt_difference.specs.Difference.{numbers}
use Rattle.wt_difference.specs.Views.{child_views}
use Rattle.wt_difference.proofs.differing.numbers.Given as goal

abbrev pub invariant-loop-child : goal.invariant-loop-child
invariant-loop-child l = l.out.items ++ numbers (child_views (drop l.child-index l.children)) ≡ numbers (child_views l.children)
