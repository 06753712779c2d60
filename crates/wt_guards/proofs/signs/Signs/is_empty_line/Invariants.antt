use Rattle.std.proofs.Common.{◌≡◌, length}
use Rattle.wt_guards.specs.Guards.{is_empty_line}
use Rattle.wt_guards.specs.Views.{signs_left}
use Rattle.wt_guards.proofs.signs.Signs.is_empty_line.Given as goal

abbrev pub invariant-loop-sign : goal.invariant-loop-sign
invariant-loop-sign l = is_empty_line (signs_left l.rest) ≡ is_empty_line (signs_left l.fn.self)

abbrev pub decreases-loop-sign : goal.decreases-loop-sign
decreases-loop-sign l = length (signs_left l.rest)
