use Rattle.std.proofs.Common.{◌≡◌, drop}
use Rattle.wt_tiles.specs.Glyphs.{begins}
use Rattle.wt_tiles.proofs.glyph.begins.Given as goal

abbrev pub invariant-loop-i : goal.invariant-loop-i
invariant-loop-i l = begins (drop l.i l.word) (drop l.i l.glyphs) ≡ begins l.word l.glyphs
