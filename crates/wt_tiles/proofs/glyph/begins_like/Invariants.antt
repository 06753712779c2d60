use Rattle.std.proofs.Common.{◌≡◌, drop}
use Rattle.wt_tiles.specs.Glyphs.{begins_like}
use Rattle.wt_tiles.proofs.glyph.begins_like.Given as goal

abbrev pub invariant-loop-i : goal.invariant-loop-i
invariant-loop-i l = begins_like (drop l.i l.word) (drop l.i l.glyphs) ≡ begins_like l.word l.glyphs
