use Rattle.std.proofs.Common.{◌++◌, length, string_bytes}
use Rattle.wt_guards.specs.Guards.{spelled}
use Rattle.wt_guards.specs.Views.{signs_left, setting_of, Walks}
use Rattle.wt_guards.proofs.content.push_spelled.Given as goal

abbrev pub invariant-loop-next : goal.invariant-loop-next
invariant-loop-next l = Walks (setting_of l.fn.setting)
    (string_bytes l.fn.out ++ spelled (setting_of l.fn.setting) (signs_left l.fn.signs)) (string_bytes l.out) l.walk

abbrev pub decreases-loop-next : goal.decreases-loop-next
decreases-loop-next l = length (signs_left l.walk.rest)
