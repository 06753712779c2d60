use Rattle.std.proofs.Common.{◌≡◌, ◌++◌, take}
use Rattle.wt_tiles.specs.Glyphs.{byte_glyphs}
use Rattle.wt_tiles.proofs.tile.push_bytes.Given as goal

abbrev pub invariant-loop-byte : goal.invariant-loop-byte
invariant-loop-byte l = l.out ≡ l.initial.out ++ byte_glyphs (take l.byte-index l.bytes)
