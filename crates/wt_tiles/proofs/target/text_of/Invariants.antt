use Rattle.std.proofs.Common.{◌≡◌, take}
use Rattle.std.specs.List.{flat_map}
use Rattle.wt_tiles.specs.Links.{text_of}
use Rattle.wt_tiles.proofs.target.text_of.Given as goal

abbrev pub invariant-loop-glyph : goal.invariant-loop-glyph
invariant-loop-glyph l = l.out.items ≡ flat_map text_of (take l.glyph-index l.glyphs)
