-- Contexts, read.
use Rattle.std.proofs.Common.{◌≡◌, ℕ, zero, suc, ◌-◌, ◌<◌, Some, None, List, [], ◌∷◌, ◌++◌, map, refl, sym, ap, ◌∙◌, arith, append_assoc}
use Rattle.std.specs.List.{flat_map}
use Rattle.wt_span.specs.Items.{Item, items}
use Rattle.wt_inline.specs.declared.loose.Loose.TheVariants.{Text}
use Rattle.wt_inline.specs.Parts.{parts}
use Rattle.wt_inline.specs.ItemTree.{ItemTree}
use Rattle.wt_tiles.specs.declared.context.Context.{Context}
use Rattle.wt_tiles.specs.declared.tile.Tile.{Tile}
use Rattle.wt_tiles.specs.Tiles.{tiles}
use Rattle.wt_tiles.specs.Cutting.{tile_of}
use Rattle.wt_context.specs.Segments.{Segment, loose_segments, tree_segment}
use Rattle.wt_context.specs.Nodes.{Reading, tile_tree, segments_by, tile_segments, segments}
use Rattle.wt_context.specs.Styled.{with_styles}
use Rattle.wt_context.specs.Line.{within}

pub zero_read : (n : ℕ) (cx : Context) (xs : List Item) → n ≡ 0 → parts Text xs ≡ within n cx xs
zero_read zero cx xs e = refl
zero_read (suc n) cx xs e = absurd (omega (arith, e))

segments_are : (read : Reading) (cx : Context) (xs : List Item) (ts : List Tile) → map tile_of ts ≡ tiles cx xs
    → flat_map (tile_segments read cx) (map tile_of ts) ≡ segments read cx xs
unfolding segments
segments_are read cx xs ts e = ap (flat_map (tile_segments read cx)) e

pub context_read : (n : ℕ) (cx : Context) (xs : List Item) (ts : List Tile) (us : List Segment) → 0 < n → map tile_of ts ≡ tiles cx xs
    → us ≡ flat_map (tile_segments (within (n - 1)) cx) (map tile_of ts) → with_styles us ≡ within n cx xs
context_read zero cx xs ts us p e f = absurd (omega arith)
context_read (suc n) cx xs ts us p e f =
    let z : suc n - 1 ≡ n = omega arith in
    ap with_styles (f ∙ ap (λ k. flat_map (tile_segments (within k) cx) (map tile_of ts)) z ∙ segments_are (within n) cx xs ts e)

-- a tile without a tree, and one with
pub loose_tile : (read : Reading) (cx : Context) (t : Tile) → None ≡ tile_tree read cx t.kind (tile_of t).0 (items t.pieces)
    → loose_segments (items t.pieces) ≡ tile_segments read cx (tile_of t)
loose_tile read cx t e = ap (λ o. segments_by o (items t.pieces)) e

pub tree_tile : (read : Reading) (cx : Context) (t : Tile) (tree : ItemTree) → Some tree ≡ tile_tree read cx t.kind (tile_of t).0 (items t.pieces)
    → tree_segment (items t.pieces) tree ∷ [] ≡ tile_segments read cx (tile_of t)
tree_tile read cx t tree e = ap (λ o. segments_by o (items t.pieces)) e

-- one tile more
pub tiles_step : (read : Reading) (cx : Context) (before rest : List Tile) (t : Tile) (old new all : List Segment) → before ≡ t ∷ rest
    → new ≡ old ++ tile_segments read cx (tile_of t)
    → old ++ flat_map (tile_segments read cx) (map tile_of before) ≡ all → new ++ flat_map (tile_segments read cx) (map tile_of rest) ≡ all
tiles_step read cx before rest t old new all e n i =
    ap (λ us. us ++ flat_map (tile_segments read cx) (map tile_of rest)) n
    ∙ append_assoc old (tile_segments read cx (tile_of t)) (flat_map (tile_segments read cx) (map tile_of rest))
    ∙ ap (λ ts. old ++ flat_map (tile_segments read cx) (map tile_of ts)) (sym e)
    ∙ i
