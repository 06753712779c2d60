-- The parts of each tile can be cut.
use Rattle.std.proofs.Common.{◌≡◌, ℕ, zero, suc, ◌+◌, ◌-◌, ◌^◌, ◌<◌, ◌≤◌, ◌⊎◌, Bool, true, false, Some, List, [], ◌∷◌, length, map, take, drop, refl, sym, ap, ◌∙◌, subst, arith, inl, inr, length-append, length-drop}
use Rattle.std.specs.Prelude.{All}
use Rattle.std.specs.List.{AllByRecursion}
use Rattle.std.proofs.lemmas.List.{length-map, length-take-le, take-map, drop-map}
use Rattle.std.proofs.lemmas.List.Elements.{All-head, All-tail, All-nil, All-cons}
use Rattle.wt_span.specs.Items.{Item, items}
use Rattle.wt_span.specs.Origins.{IsSoundPiece}
use Rattle.wt_tiles.specs.declared.context.Context.{Context}
use Rattle.wt_tiles.specs.declared.glyph.Glyph.{Glyph}
use Rattle.wt_tiles.specs.declared.shape.Shape.{Shape}
use Rattle.wt_tiles.specs.declared.shape.TileKind.{TileKind}
use Rattle.wt_tiles.specs.declared.shape.TileKind.TheVariants as kind
use Rattle.wt_tiles.specs.declared.tile.Tile.{Tile}
use Rattle.wt_tiles.specs.Glyphs.{glyph_of}
use Rattle.wt_tiles.specs.Tiles.{size, shapes, parts, tiles}
use Rattle.wt_tiles.specs.Edges.{low_at, low_before, IsEdge}
use Rattle.wt_tiles.specs.Reading.{tile_at, IsForm, StandsBy, is_word_at, AreTiles}
use Rattle.wt_tiles.specs.Cutting.{tile_of, tile_items, AreSoundTiles}
use Rattle.wt_tiles.proofs.Words.{low_drop}
use Rattle.wt_tiles.proofs.LinkFits.{Fits}
use Rattle.wt_tiles.proofs.Fits.{tile_fits}
use Rattle.wt_tiles.proofs.Readings.{shapes_are}
use Rattle.wt_tiles.proofs.Joining.{tiles_are}
use Rattle.wt_context.specs.TileParts.{HasCuts, IsCutTile}

-- ---- edges of what is taken, and of what is left

low_take : (gs : List Glyph) (m k : ℕ) → k < m → low_at (take m gs) k ≡ low_at gs k
low_take gs zero k l = absurd (omega arith)
low_take [] (suc m) k l = refl
low_take (g ∷ gs) (suc m) zero l = refl
low_take (g ∷ gs) (suc m) (suc k) l = low_take gs m k (omega arith)

at_or_before : (n m : ℕ) → n ≤ m → (n < m) ⊎ (n ≡ m)
at_or_before zero zero l = inr refl
at_or_before zero (suc m) l = inl (omega arith)
at_or_before (suc n) zero l = absurd (omega arith)
at_or_before (suc n) (suc m) l = later (at_or_before n m (omega arith))
  where
    later : ((n < m) ⊎ (n ≡ m)) → (suc n < suc m) ⊎ (suc n ≡ suc m)
    later (inl h) = inl (omega arith)
    later (inr h) = inr (ap suc h)

edge_take : (gs : List Glyph) (m n : ℕ) → n ≤ m → m ≤ length gs → IsEdge gs n → IsEdge (take m gs) n
edge_take gs m n l w e = by (at_or_before n m l) e
  where
    full : length (take m gs) ≡ m
    full = length-take-le m gs w

    before : (k : ℕ) → n ≡ k → n < m → low_before gs k ≡ true → low_before (take m gs) k ≡ true
    before zero i h b = b
    before (suc k) i h b = low_take gs m k (omega (arith, i, h)) ∙ b

    by : ((n < m) ⊎ (n ≡ m)) → IsEdge gs n → IsEdge (take m gs) n
    by (inr h) f = inl (omega (arith, h, full))
    by (inl h) (inl i) = absurd (omega (arith, i, h, w))
    by (inl h) (inr (inl i)) = inr (inl (low_take gs m n h ∙ i))
    by (inl h) (inr (inr i)) = inr (inr (before n refl h i))

edge_drop : (hs : List Glyph) (a b c : ℕ) → 0 < b → c ≡ a + b → IsEdge hs c → IsEdge (drop a hs) b
edge_drop hs a b c pos e (inl i) = inl (omega (arith, i, e, length-drop a hs))
edge_drop hs a b c pos e (inr (inl i)) = inr (inl (low_drop a b hs ∙ ap (low_at hs) (sym e) ∙ i))
edge_drop hs a zero c pos e (inr (inr i)) = absurd (omega arith)
edge_drop hs a (suc k) zero pos e (inr (inr i)) = absurd (omega (arith, e))
edge_drop hs a (suc k) (suc m) pos e (inr (inr i)) = let z : m ≡ a + k = omega (arith, e) in inr (inr (low_drop a k hs ∙ ap (low_at hs) (sym z) ∙ i))

-- ---- one tile

form_stands : (k : TileKind) (cx : Context) (after : Bool) (w : Shape) (gs : List Glyph) → IsForm k → StandsBy k cx after w gs → tile_at cx after gs ≡ Some w
form_stands kind.Link cx after w gs f h = h
form_stands kind.Category cx after w gs f h = h
form_stands kind.Media cx after w gs f h = h
form_stands kind.ExtLink cx after w gs f h = h
form_stands kind.BareUrl cx after w gs f h = h
form_stands kind.Br cx after w gs f h = h
form_stands kind.Pair cx after w gs f h = h
form_stands kind.TagIsland cx after w gs f h = h
form_stands kind.Switch cx after w gs f h = h
form_stands kind.Atom cx after w gs f h = h
form_stands kind.Mark cx after w gs f h = h
form_stands kind.Chars cx after w gs f h = absurd f

abbrev IsCutPart : Shape × List Item → Type 0
IsCutPart (w, ys) = IsForm w.kind → HasCuts w ys

edge_in : (xs : List Item) (w : Shape) (a b n : ℕ) → size w ≤ length xs → n ≤ size w → n ≡ a + b → 0 < b → IsEdge (map glyph_of xs) n
    → IsEdge (map glyph_of (drop a (take (size w) xs))) b
edge_in xs w a b n le l e pos edge =
    let P : List Glyph → Type 0 = λ hs. IsEdge hs b in
    let m : size w ≤ length (map glyph_of xs) = omega (arith, le, length-map xs glyph_of) in
    subst P (sym (sym (drop-map glyph_of a (take (size w) xs)) ∙ ap (drop a) (sym (take-map glyph_of (size w) xs))))
    (edge_drop (take (size w) (map glyph_of xs)) a b n pos e (edge_take (map glyph_of xs) (size w) n l m edge))

cuts_of : (xs : List Item) (w : Shape) → size w ≤ length xs → Fits (map glyph_of xs) w → HasCuts w (take (size w) xs)
cuts_of xs w le f =
    record {
      whole = length-take-le (size w) xs le;
      opening = λ pos. edge_in xs w 0 w.opening w.opening le (omega arith) (omega arith) pos f.edges.opening;
      inside = λ pos. edge_in xs w w.opening w.inside (w.opening + w.inside) le (omega arith) refl pos f.edges.inside;
      closing = λ pos. edge_in xs w (w.opening + w.inside) w.closing (w.opening + w.inside + w.closing) le (omega arith) refl pos f.edges.closing;
    }

parts_cut : (cx : Context) (after : Bool) (ws : List Shape) (xs : List Item) (gs : List Glyph) → gs ≡ map glyph_of xs → AreTiles cx after ws gs
    → AllByRecursion IsCutPart (parts ws xs)
parts_cut cx after [] xs gs e h = tt
parts_cut cx after (w ∷ ws) xs gs e (pos, le, stands, apart, rest) = (
  λ form.
      let P : List Glyph → Type 0 = λ hs. Fits hs w in
      let m : size w ≤ length xs = omega (arith, le, ap length e, length-map xs glyph_of) in
      cuts_of xs w m (subst P e (tile_fits cx after gs w (form_stands w.kind cx after w gs form stands))),
  parts_cut cx (is_word_at gs (size w - 1)) ws (drop (size w) xs) (drop (size w) gs) (ap (drop (size w)) e ∙ drop-map glyph_of (size w) xs) rest,
)

-- ---- all tiles

all_cut : (ts : List Tile) → AllByRecursion IsCutPart (map tile_of ts) → AreSoundTiles ts → length (tile_items ts) < 2 ^ 32 → All IsCutTile ts
all_cut [] h s few = All-nil IsCutTile
all_cut (t ∷ ts) h s few =
    let joined = length-append (items t.pieces) (tile_items ts) in
    All-cons IsCutTile t ts
    (record { sound = All-head (λ u. All IsSoundPiece u.pieces) t ts s; few = omega (arith, joined, few); cuts = h.0 })
    (all_cut ts h.1 (All-tail (λ u. All IsSoundPiece u.pieces) t ts s) (omega (arith, joined, few)))

pub tiles_cut : (cx : Context) (xs : List Item) (ts : List Tile) → map tile_of ts ≡ tiles cx xs → tile_items ts ≡ xs → AreSoundTiles ts
    → length xs < 2 ^ 32 → All IsCutTile ts
tiles_cut cx xs ts e joined s few =
    all_cut ts (subst (AllByRecursion IsCutPart) (sym (e ∙ tiles_are cx xs))
    (parts_cut cx false (shapes cx (map glyph_of xs)) xs (map glyph_of xs) refl (shapes_are cx (map glyph_of xs)))) s
    (omega (arith, ap length joined, few))
