-- A tile whose parts can be cut.
use Rattle.std.specs.Prelude.{◌≡◌, ◌<◌, ◌+◌, ◌^◌, List, length, drop, All}
use Rattle.wt_span.specs.Items.{Item, items}
use Rattle.wt_span.specs.Origins.{IsSoundPiece}
use Rattle.wt_tiles.specs.declared.shape.Shape.{Shape}
use Rattle.wt_tiles.specs.declared.tile.Tile.{Tile}
use Rattle.wt_tiles.specs.Tiles.{size}
use Rattle.wt_tiles.specs.Cutting.{IsEdgeIn}
use Rattle.wt_tiles.specs.Reading.{IsForm}

abbrev pub shape_of : Tile → Shape
shape_of t = record { kind = t.kind; opening = t.opening; inside = t.inside; closing = t.closing; trail = t.trail }

-- no character lies on both sides of an end of a part; a part without items needs no cut
pub record HasCuts (w : Shape) (xs : List Item) : Type 0 where
  pub whole : length xs ≡ size w
  pub opening : 0 < w.opening → IsEdgeIn xs w.opening
  pub inside : 0 < w.inside → IsEdgeIn (drop w.opening xs) w.inside
  pub closing : 0 < w.closing → IsEdgeIn (drop (w.opening + w.inside) xs) w.closing

-- a tile with sound pieces of fewer than 2^32 items, whose parts can be cut where it has some
pub record IsCutTile (t : Tile) : Type 0 where
  pub sound : All IsSoundPiece t.pieces
  pub few : length (items t.pieces) < 2 ^ 32
  pub cuts : IsForm t.kind → HasCuts (shape_of t) (items t.pieces)
