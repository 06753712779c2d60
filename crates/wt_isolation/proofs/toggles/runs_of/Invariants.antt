use Rattle.std.proofs.Common.{◌≡◌, ◌++◌, drop}
use Rattle.wt_isolation.specs.Toggles.{runs_of}
use Rattle.wt_isolation.proofs.toggles.runs_of.Given as goal

abbrev pub invariant-loop-shape : goal.invariant-loop-shape
invariant-loop-shape l = l.out.items ++ runs_of (drop l.shape-index l.shapes) l.left ≡ runs_of l.shapes l.glyphs
