use Rattle.std.proofs.Common.{◌≡◌, ◌++◌, ◌+◌, ◌*◌, map}
use Rattle.std.specs.Prelude.{All}
use Rattle.std.specs.List.{flat_map}
use Rattle.std.specs.Vec.Iter.{into_iter_items}
use Rattle.wt_tiles.specs.Cutting.{tile_of}
use Rattle.wt_context.specs.Line.{within}
use Rattle.wt_context.specs.Nodes.{tile_segments}
use Rattle.wt_context.specs.TileParts.{IsCutTile}
use Rattle.wt_context.specs.Tokens.{segments_of}
use Rattle.wt_context.proofs.reading.+reading.Given as goal

abbrev pub decreases-nested : goal.decreases-nested
decreases-nested l = 5 * l.levels + 1

abbrev pub decreases-tile_tree : goal.decreases-tile_tree
decreases-tile_tree l = 5 * l.levels + 2

abbrev pub decreases-tokens_of : goal.decreases-tokens_of
decreases-tokens_of l = 5 * l.levels + 4

abbrev pub decreases-with_context : goal.decreases-with_context
decreases-with_context l = 5 * l.levels

abbrev pub decreases-with_tile : goal.decreases-with_tile
decreases-with_tile l = 5 * l.levels + 3

abbrev pub invariant-tokens_of-loop-tile : goal.invariant-tokens_of-loop-tile
invariant-tokens_of-loop-tile l = record {
  cut : All IsCutTile (into_iter_items l.tile-iterator);
  made : segments_of l.tokens ++ flat_map (tile_segments (within l.levels) l.context) (map tile_of (into_iter_items l.tile-iterator))
      ≡ flat_map (tile_segments (within l.levels) l.context) (map tile_of (into_iter_items l.initial.tile-iterator));
}
