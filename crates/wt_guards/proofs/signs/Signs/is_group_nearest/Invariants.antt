use Rattle.std.proofs.Common.{◌≡◌, length}
use Rattle.wt_guards.specs.Content.{is_group}
use Rattle.wt_guards.specs.Guards.{is_nearest}
use Rattle.wt_guards.specs.Views.{signs_left}
use Rattle.wt_guards.proofs.signs.Signs.is_group_nearest.Given as goal

abbrev pub invariant-loop-sign : goal.invariant-loop-sign
invariant-loop-sign l = is_nearest is_group (signs_left l.rest) ≡ is_nearest is_group (signs_left l.fn.self)

abbrev pub decreases-loop-sign : goal.decreases-loop-sign
decreases-loop-sign l = length (signs_left l.rest)
