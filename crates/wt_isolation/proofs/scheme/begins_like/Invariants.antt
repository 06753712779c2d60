use Rattle.std.proofs.Common.{◌≡◌, drop}
use Rattle.wt_tiles.specs.Glyphs.{begins_like, byte_glyphs}
use Rattle.wt_isolation.proofs.scheme.begins_like.Given as goal

abbrev pub invariant-loop-i : goal.invariant-loop-i
invariant-loop-i l = begins_like (drop l.i l.word) (byte_glyphs (drop l.i l.bytes)) ≡ begins_like l.word (byte_glyphs l.bytes)
