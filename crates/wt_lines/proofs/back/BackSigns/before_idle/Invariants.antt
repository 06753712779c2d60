use Rattle.std.proofs.Common.{◌≡◌, length}
use Rattle.wt_lines.specs.Kinds.{is_idle, past}
use Rattle.wt_lines.specs.Signs.{right}
use Rattle.wt_lines.proofs.back.BackSigns.before_idle.Given as goal

abbrev pub invariant-loop-sign : goal.invariant-loop-sign
invariant-loop-sign l = past is_idle (right l.rest) ≡ past is_idle (right l.self)

abbrev pub decreases-loop-sign : goal.decreases-loop-sign
decreases-loop-sign l = length (right l.rest)
