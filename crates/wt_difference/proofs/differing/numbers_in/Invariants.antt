use Rattle.std.proofs.Common.{◌≡◌, ◌++◌, drop}
use Rattle.wt_checks.specs.View.{indexed}
use Rattle.wt_difference.specs.Difference.{numbers_in}
use Rattle.wt_difference.specs.Views.{child_views}
use Rattle.wt_difference.proofs.differing.numbers_in.Given as goal

abbrev pub invariant-loop-child : goal.invariant-loop-child
invariant-loop-child l = l.out.items ++ numbers_in (indexed l.index) l.holder (child_views (drop l.child-index l.children))
    ≡ numbers_in (indexed l.index) l.holder (child_views l.children)
