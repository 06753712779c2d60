use Rattle.std.proofs.Common.{◌≡◌, ◌≤◌, length, map, take}
use Rattle.std.specs.Prelude.{reverse}
use Rattle.wt_span.specs.Items.{sign, items}
use Rattle.wt_lines.specs.Signs.{right}
use Rattle.wt_lines.proofs.back.BackSigns.split_last.Given as goal

abbrev pub invariant-loop-end : goal.invariant-loop-end
invariant-loop-end l = record {
  within : l.end ≤ length l.self.pieces.now;
  rest : reverse (map sign (items (take l.end l.self.pieces.now))) ≡ right l.self;
}

abbrev pub decreases-loop-end : goal.decreases-loop-end
decreases-loop-end l = l.end
