use Rattle.std.proofs.Common.{◌≡◌, ◌≤◌, ◌++◌, drop}
use Rattle.wt_isolation.specs.Toggles.{quote_runs}
use Rattle.wt_isolation.proofs.toggles.push_runs.Given as goal

abbrev pub invariant-loop-glyph : goal.invariant-loop-glyph
invariant-loop-glyph l = record {
  few : l.count ≤ l.glyph-index;
  runs : l.out.items ++ quote_runs l.count (drop l.glyph-index l.glyphs) ≡ l.initial.out.items ++ quote_runs 0 l.glyphs;
}
