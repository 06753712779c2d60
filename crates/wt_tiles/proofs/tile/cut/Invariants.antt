use Rattle.std.proofs.Common.{◌≡◌, ◌++◌, map, drop}
use Rattle.std.specs.List.{All}
use Rattle.wt_span.specs.Items.{items}
use Rattle.wt_span.specs.Origins.{IsSoundPiece}
use Rattle.wt_tiles.specs.Glyphs.{glyph_of}
use Rattle.wt_tiles.specs.Tiles.{parts}
use Rattle.wt_tiles.specs.Cutting.{tile_of, AreSoundTiles, rest_pieces, AreCuts}
use Rattle.wt_tiles.proofs.tile.cut.Given as goal

abbrev pub invariant-loop-shape : goal.invariant-loop-shape
invariant-loop-shape l = record {
  value : map tile_of l.out ++ parts (drop l.shape-index l.shapes) (items (rest_pieces l.rest)) ≡ parts l.shapes (items l.pieces);
  cuts : AreCuts (drop l.shape-index l.shapes) (map glyph_of (items (rest_pieces l.rest)));
  sound : All IsSoundPiece (rest_pieces l.rest);
  sound_tiles : AreSoundTiles l.out;
}
