use Rattle.std.proofs.Common.{◌≡◌, ◌≤◌, ◌-◌, length}
use Rattle.wt_tiles.proofs.Cuts.{IsDone}
use Rattle.wt_tiles.proofs.read.shapes.Given as goal

abbrev pub invariant-loop-at : goal.invariant-loop-at
invariant-loop-at l = record {
  order : l.from ≤ l.at;
  within : l.at ≤ length l.glyphs;
  known : l.known ≡ l.glyphs;
  done : IsDone l.context l.glyphs l.out l.from l.at;
}

abbrev pub decreases-loop-at : goal.decreases-loop-at
decreases-loop-at l = length l.glyphs - l.at
