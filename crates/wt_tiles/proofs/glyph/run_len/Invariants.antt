use Rattle.std.proofs.Common.{◌≡◌, ◌+◌, drop}
use Rattle.wt_tiles.specs.Glyphs.{run_len}
use Rattle.wt_tiles.proofs.glyph.run_len.Given as goal

abbrev pub invariant-loop-i : goal.invariant-loop-i
invariant-loop-i l = l.i + run_len l.class (drop l.i l.glyphs) ≡ run_len l.class l.glyphs
