use Rattle.std.proofs.Common.{◌≡◌, drop}
use Rattle.wt_lines.specs.Signs.{right}
use Rattle.wt_blocks.proofs.ends.before_back.Given as goal

abbrev pub invariant-loop-i : goal.invariant-loop-i
invariant-loop-i l = right l.rest ≡ drop l.i (right l.signs)
