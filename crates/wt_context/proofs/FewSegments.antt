-- A context has no more segments than items.
use Rattle.std.proofs.Common.{◌≡◌, suc, ◌-◌, ◌<◌, ◌≤◌, Bool, true, false, Option, Some, None, List, [], ◌∷◌, length, map, take, drop, refl, ap, ◌∙◌, arith, length-append, length-drop}
use Rattle.std.specs.Prelude.{if◌then◌else◌}
use Rattle.std.specs.List.{flat_map}
use Rattle.std.proofs.lemmas.List.{length-map, length-take-le, drop-map}
use Rattle.wt_span.specs.Items.{Item}
use Rattle.wt_span.specs.Runs.{put, runs}
use Rattle.wt_inline.specs.ItemTree.{ItemTree}
use Rattle.wt_tiles.specs.declared.context.Context.{Context}
use Rattle.wt_tiles.specs.declared.glyph.Glyph.{Glyph}
use Rattle.wt_tiles.specs.declared.shape.Shape.{Shape}
use Rattle.wt_tiles.specs.Glyphs.{glyph_of}
use Rattle.wt_tiles.specs.Tiles.{size, shapes, parts, tiles}
use Rattle.wt_tiles.specs.Reading.{is_word_at, AreTiles}
use Rattle.wt_tiles.proofs.Readings.{shapes_are}
use Rattle.wt_tiles.proofs.Joining.{tiles_are}
use Rattle.wt_context.specs.Segments.{one_stretch, loose_segment, loose_segments}
use Rattle.wt_context.specs.Nodes.{Reading, tile_tree, segments_by, tile_segments}

-- ---- runs

put_few : {A : Type 0} (joins : A → A → Bool) (x : A) (rs : List (List A)) → length (put joins x rs) ≤ suc (length rs)
put_few joins x [] = omega arith
put_few joins x ([] ∷ rs) = omega arith
put_few joins x ((y ∷ ys) ∷ rs) = by (joins x y)
  where
    by : (b : Bool) → length (if b then (x ∷ y ∷ ys) ∷ rs else (x ∷ []) ∷ (y ∷ ys) ∷ rs) ≤ suc (suc (length rs))
    by true = omega arith
    by false = omega arith

runs_few : {A : Type 0} (joins : A → A → Bool) (xs : List A) → length (runs joins xs) ≤ length xs
runs_few joins [] = omega arith
runs_few joins (x ∷ xs) = omega (arith, put_few joins x (runs joins xs), runs_few joins xs)

loose_few : (xs : List Item) → length (loose_segments xs) ≤ length xs
unfolding loose_segments
loose_few xs = omega (arith, length-map (runs one_stretch xs) loose_segment, runs_few one_stretch xs)

-- ---- tiles

tree_few : (o : Option ItemTree) (xs : List Item) → 0 < length xs → length (segments_by o xs) ≤ length xs
tree_few None xs some = loose_few xs
tree_few (Some t) xs some = omega (arith, some)

parts_few : (read : Reading) (cx : Context) (after : Bool) (ws : List Shape) (xs : List Item) (gs : List Glyph) → gs ≡ map glyph_of xs
    → AreTiles cx after ws gs → length (flat_map (tile_segments read cx) (parts ws xs)) ≤ length xs
parts_few read cx after [] xs gs e h = omega arith
parts_few read cx after (w ∷ ws) xs gs e (pos, le, stands, apart, rest) =
    let m : size w ≤ length xs = omega (arith, le, ap length e, length-map xs glyph_of) in
    let ys = take (size w) xs in
    let n : length ys ≡ size w = length-take-le (size w) xs m in
    let first : length (tile_segments read cx (w, ys)) ≤ length ys = tree_few (tile_tree read cx w.kind w ys) ys (omega (arith, n, pos)) in
    let others = parts_few read cx (is_word_at gs (size w - 1)) ws (drop (size w) xs) (drop (size w) gs)
    (ap (drop (size w)) e ∙ drop-map glyph_of (size w) xs) rest in
    omega (
      arith,
      m,
      n,
      first,
      others,
      length-drop (size w) xs,
      length-append (tile_segments read cx (w, ys)) (flat_map (tile_segments read cx) (parts ws (drop (size w) xs))),
    )

pub few_segments : (read : Reading) (cx : Context) (xs : List Item) (ts : List (Shape × List Item)) → ts ≡ tiles cx xs
    → length (flat_map (tile_segments read cx) ts) ≤ length xs
few_segments read cx xs ts e =
    let fit = parts_few read cx false (shapes cx (map glyph_of xs)) xs (map glyph_of xs) refl (shapes_are cx (map glyph_of xs)) in
    omega (arith, ap (λ us. length (flat_map (tile_segments read cx) us)) (e ∙ tiles_are cx xs), fit)
