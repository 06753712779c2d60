use Rattle.std.proofs.Common.{◌≡◌, map, take}
use Rattle.wt_span.specs.Items.{items}
use Rattle.wt_tiles.specs.Glyphs.{glyph_of}
use Rattle.wt_tiles.proofs.tile.glyphs_of.Given as goal

abbrev pub invariant-loop-piece : goal.invariant-loop-piece
invariant-loop-piece l = l.out ≡ map glyph_of (items (take l.piece-index l.pieces))
