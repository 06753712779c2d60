use Rattle.std.proofs.Common.{◌≡◌, length}
use Rattle.wt_lines.specs.Kinds.{is_mark_sign, past}
use Rattle.wt_lines.specs.Signs.{left}
use Rattle.wt_lines.proofs.sign.Signs.past_marks.Given as goal

abbrev pub invariant-loop-sign : goal.invariant-loop-sign
invariant-loop-sign l = past is_mark_sign (left l.rest) ≡ past is_mark_sign (left l.self)

abbrev pub decreases-loop-sign : goal.decreases-loop-sign
decreases-loop-sign l = length (left l.rest)
