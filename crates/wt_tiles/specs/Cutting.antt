-- Tiles with their pieces, and pieces that are cut into them.
use Rattle.std.specs.Prelude.{ℕ, Option, Some, None, List, [], ◌∷◌, ◌++◌, map, drop, All}
use Rattle.std.specs.List.{flat_map}
use Rattle.wt_span.specs.declared.form.Piece.{Piece}
use Rattle.wt_span.specs.Items.{Item, items}
use Rattle.wt_span.specs.Origins.{IsSoundPiece}
use Rattle.wt_tiles.specs.declared.glyph.Glyph.{Glyph}
use Rattle.wt_tiles.specs.declared.shape.Shape.{Shape}
use Rattle.wt_tiles.specs.declared.tile.Tile.{Tile}
use Rattle.wt_tiles.specs.declared.tile.Rest.{Rest}
use Rattle.wt_tiles.specs.Glyphs.{glyph_of}
use Rattle.wt_tiles.specs.Tiles.{size}
use Rattle.wt_tiles.specs.Edges.{IsEdge}

-- its shape, and its items
abbrev pub tile_of : Tile → Shape × List Item
tile_of t = (record { kind = t.kind; opening = t.opening; inside = t.inside; closing = t.closing; trail = t.trail }, items t.pieces)

-- the items of tiles, joined
abbrev pub tile_items : List Tile → List Item
tile_items ts = flat_map (λ t. items t.pieces) ts

abbrev pub AreSoundTiles : List Tile → Type 0
AreSoundTiles ts = All (λ t. All IsSoundPiece t.pieces) ts

-- ---- what is left

abbrev pub first_piece : Option Piece → List Piece
first_piece None = []
first_piece (Some p) = p ∷ []

abbrev pub rest_pieces : Rest → List Piece
rest_pieces r = first_piece r.first ++ r.pieces.now

-- items may be cut after n of them
abbrev pub IsEdgeIn : List Item → ℕ → Type 0
IsEdgeIn xs n = IsEdge (map glyph_of xs) n

-- items may be cut after each of these shapes
abbrev pub AreCuts : List Shape → List Glyph → Type 0
AreCuts [] gs = Unit {0}
AreCuts (w ∷ ws) gs = IsEdge gs (size w) × AreCuts ws (drop (size w) gs)

-- the items of shapes with their items, joined
abbrev pub joined : List (Shape × List Item) → List Item
joined ps = flat_map (λ (p : Shape × List Item). p.1) ps
