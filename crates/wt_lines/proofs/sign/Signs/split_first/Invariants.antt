use Rattle.std.proofs.Common.{◌≡◌, map, drop}
use Rattle.wt_span.specs.Items.{sign, items}
use Rattle.wt_lines.specs.Signs.{left}
use Rattle.wt_lines.proofs.sign.Signs.split_first.Given as goal

abbrev pub invariant-loop-i : goal.invariant-loop-i
invariant-loop-i l = map sign (items (drop l.i l.self.pieces.now)) ≡ left l.self
