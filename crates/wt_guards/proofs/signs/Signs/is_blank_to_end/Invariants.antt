use Rattle.std.proofs.Common.{◌≡◌, length}
use Rattle.wt_guards.specs.Letters.{is_blank_to_end}
use Rattle.wt_guards.specs.Views.{signs_left}
use Rattle.wt_guards.proofs.signs.Signs.is_blank_to_end.Given as goal

abbrev pub invariant-loop-sign : goal.invariant-loop-sign
invariant-loop-sign l = is_blank_to_end (signs_left l.rest) ≡ is_blank_to_end (signs_left l.fn.self)

abbrev pub decreases-loop-sign : goal.decreases-loop-sign
decreases-loop-sign l = length (signs_left l.rest)
