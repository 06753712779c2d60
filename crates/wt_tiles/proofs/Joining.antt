-- The shapes of a context: where the items may be cut, and that what is cut joins to them.
use Rattle.std.proofs.Common.{◌≡◌, ℕ, zero, suc, ◌+◌, ◌-◌, ◌<◌, ◌≤◌, ◌⊎◌, Bool, true, false, List, [], ◌∷◌, ◌++◌, length, map, take, drop, get_or, refl, sym, ap, ◌∙◌, inl, inr, arith, subst, length-drop, append_assoc}
use Rattle.std.proofs.lemmas.List.{length-map, drop-map, map-append, take-append-drop}
use Rattle.wt_span.specs.Items.{Item}
use Rattle.wt_tiles.specs.declared.context.Context.{Context}
use Rattle.wt_tiles.specs.declared.glyph.Glyph.{Glyph}
use Rattle.wt_tiles.specs.declared.shape.Shape.{Shape}
use Rattle.wt_tiles.specs.declared.shape.TileKind.{TileKind}
use Rattle.wt_tiles.specs.declared.shape.TileKind.TheVariants as kind
use Rattle.wt_tiles.specs.declared.tile.Tile.{Tile}
use Rattle.wt_tiles.specs.Glyphs.{glyph_of}
use Rattle.wt_tiles.specs.Tiles.{size, shapes, parts, tiles}
use Rattle.wt_tiles.specs.Reading.{IsForm, is_word_at, StandsBy, BeginsWithForm, Apart, AreTiles}
use Rattle.wt_tiles.specs.Edges.{low_at, IsEdge}
use Rattle.wt_tiles.specs.Cutting.{tile_of, tile_items, joined, AreCuts}
use Rattle.wt_tiles.proofs.Words.{low_drop, edge_at}
use Rattle.wt_tiles.proofs.LinkFits.{Fits}
use Rattle.wt_tiles.proofs.Fits.{tile_fits}
use Rattle.wt_tiles.proofs.Readings.{shapes_are}

-- ---- cuts

-- a form that stands here begins with a low item, and ends at an edge
form_stands : (k : TileKind) (cx : Context) (after : Bool) (w : Shape) (gs : List Glyph) → IsForm k → StandsBy k cx after w gs → Fits gs w
form_stands kind.Chars cx after w gs form h = absurd form
form_stands k cx after w gs form h = tile_fits cx after gs w h

-- what follows a run of characters: nothing, or a form
after_chars : (cx : Context) (after : Bool) (ws : List Shape) (gs : List Glyph) → BeginsWithForm ws → AreTiles cx after ws gs
    → (length gs ≡ 0) ⊎ (low_at gs 0 ≡ true)
after_chars cx after [] gs b h = inl (ap (λ (hs : List Glyph). length hs) h)
after_chars cx after (w ∷ ws) gs b (pos, le, stands, apart, rest) = let f = form_stands w.kind cx after w gs b stands in inr f.edges.start

chars_edge : (gs : List Glyph) (n : ℕ) → n ≤ length gs → (length (drop n gs) ≡ 0) ⊎ (low_at (drop n gs) 0 ≡ true) → IsEdge gs n
chars_edge gs n le (inl e) = inl (omega (arith, length-drop n gs))
chars_edge gs n le (inr low) = edge_at gs (n + 0) n (omega arith) (sym (low_drop n 0 gs) ∙ low)

edge_by : (k : TileKind) (cx : Context) (after next : Bool) (w : Shape) (ws : List Shape) (gs : List Glyph) → size w ≤ length gs
    → StandsBy k cx after w gs → Apart k ws → AreTiles cx next ws (drop (size w) gs) → IsEdge gs (size w)
edge_by kind.Chars cx after next w ws gs le h apart rest = chars_edge gs (size w) le (after_chars cx next ws (drop (size w) gs) apart rest)
edge_by k cx after next w ws gs le h apart rest = let f = tile_fits cx after gs w h in f.edges.trail

cuts_by : (cx : Context) (after : Bool) (ws : List Shape) (gs : List Glyph) → AreTiles cx after ws gs → AreCuts ws gs
cuts_by cx after [] gs h = tt
cuts_by cx after (w ∷ ws) gs (pos, le, stands, apart, rest) =
    (edge_by w.kind cx after (is_word_at gs (size w - 1)) w ws gs le stands apart rest, cuts_by cx (is_word_at gs (size w - 1)) ws (drop (size w) gs) rest)

pub cuts_are : (cx : Context) (gs : List Glyph) → AreCuts (shapes cx gs) gs
cuts_are cx gs = cuts_by cx false (shapes cx gs) gs (shapes_are cx gs)

-- ---- what is cut joins again

join_by : (cx : Context) (after : Bool) (ws : List Shape) (xs : List Item) (gs : List Glyph) → length gs ≡ length xs
    → AreTiles cx after ws gs → joined (parts ws xs) ≡ xs
join_by cx after [] [] gs e h = refl
join_by cx after [] (x ∷ xs) gs e h = let none : length gs ≡ 0 = ap (λ (hs : List Glyph). length hs) h in absurd (omega arith)
join_by cx after (w ∷ ws) xs gs e (pos, le, stands, apart, rest) =
    ap (λ ys. take (size w) xs ++ ys) (join_by cx (is_word_at gs (size w - 1)) ws (drop (size w) xs) (drop (size w) gs)
    (omega (arith, length-drop (size w) gs, length-drop (size w) xs)) rest)
    ∙ take-append-drop (size w) xs

pub tiles_join : (cx : Context) (xs : List Item) → joined (tiles cx xs) ≡ xs
unfolding tiles
tiles_join cx xs = join_by cx false (shapes cx (map glyph_of xs)) xs (map glyph_of xs) (length-map xs glyph_of) (shapes_are cx (map glyph_of xs))

items_joined : (ts : List Tile) → tile_items ts ≡ joined (map tile_of ts)
items_joined [] = refl
items_joined (t ∷ ts) = ap (λ ys. (tile_of t).1 ++ ys) (items_joined ts)

pub items_are : (cx : Context) (xs : List Item) (ts : List Tile) → map tile_of ts ≡ tiles cx xs → tile_items ts ≡ xs
items_are cx xs ts e = items_joined ts ∙ ap joined e ∙ tiles_join cx xs

pub tiles_are : (cx : Context) (xs : List Item) → tiles cx xs ≡ parts (shapes cx (map glyph_of xs)) xs
unfolding tiles
tiles_are cx xs = refl

-- ---- sizes

sizes_by : (cx : Context) (after : Bool) (ws : List Shape) (gs : List Glyph) (m : ℕ) → length gs < m → AreTiles cx after ws gs
    → (k : ℕ) (d : Shape) → k < length ws → size (get_or ws k d) < m
sizes_by cx after [] gs m lt h k d below = absurd (omega arith)
sizes_by cx after (w ∷ ws) gs m lt (pos, le, stands, apart, rest) zero d below = omega arith
sizes_by cx after (w ∷ ws) gs m lt (pos, le, stands, apart, rest) (suc k) d below =
    sizes_by cx (is_word_at gs (size w - 1)) ws (drop (size w) gs) m (omega (arith, length-drop (size w) gs)) rest k d (omega arith)

pub sizes_are : (cx : Context) (gs : List Glyph) (m : ℕ) → length gs < m → (k : ℕ) (d : Shape) → k < length (shapes cx gs)
    → size (get_or (shapes cx gs) k d) < m
sizes_are cx gs m lt = sizes_by cx false (shapes cx gs) gs m lt (shapes_are cx gs)

-- ---- the loop that cuts

at_shape : (ws : List Shape) (i : ℕ) (d : Shape) → i < length ws → drop i ws ≡ get_or ws i d ∷ drop (i + 1) ws
at_shape [] i d h = absurd (omega arith)
at_shape (w ∷ ws) zero d h = refl
at_shape (w ∷ ws) (suc i) d h = let z : suc (i + 1) ≡ suc i + 1 = omega arith in at_shape ws i d (omega arith) ∙ ap (λ m. get_or ws i d ∷ drop m (w ∷ ws)) z

pub parts_next : (ws : List Shape) (i : ℕ) (d : Shape) (old new : List Tile) (t : Tile) (rest after taken : List Item)
    (all : List (Shape × List Item)) → i < length ws
    → new ≡ old ++ t ∷ [] → tile_of t ≡ (get_or ws i d, taken) → taken ≡ take (size (get_or ws i d)) rest → after ≡ drop (size (get_or ws i d)) rest
    → map tile_of old ++ parts (drop i ws) rest ≡ all → map tile_of new ++ parts (drop (i + 1) ws) after ≡ all
parts_next ws i d old new t rest after taken all h news is front back had =
    let w : Shape = get_or ws i d in
    let F : List Item → Shape × List Item = λ xs. (w, xs) in
    let tail : List (Shape × List Item) = parts (drop (i + 1) ws) (drop (size w) rest) in
    let made : tile_of t ≡ (w, take (size w) rest) = is ∙ ap F front in
    ap (λ ts. map tile_of ts ++ parts (drop (i + 1) ws) after) news
    ∙ ap (λ ps. ps ++ parts (drop (i + 1) ws) after) (map-append tile_of old (t ∷ []))
    ∙ append_assoc (map tile_of old) (tile_of t ∷ []) (parts (drop (i + 1) ws) after)
    ∙ ap (λ xs. map tile_of old ++ (tile_of t ∷ parts (drop (i + 1) ws) xs)) back
    ∙ ap (λ (p : Shape × List Item). map tile_of old ++ (p ∷ tail)) made
    ∙ ap (λ vs. map tile_of old ++ parts vs rest) (sym (at_shape ws i d h)) ∙ had

pub cuts_next : (ws : List Shape) (i : ℕ) (d : Shape) (rest after : List Item) → i < length ws
    → after ≡ drop (size (get_or ws i d)) rest → AreCuts (drop i ws) (map glyph_of rest) → AreCuts (drop (i + 1) ws) (map glyph_of after)
cuts_next ws i d rest after h back had =
    let w : Shape = get_or ws i d in
    let P : List Shape → Type 0 = λ vs. AreCuts vs (map glyph_of rest) in
    let Q : List Glyph → Type 0 = λ gs. AreCuts (drop (i + 1) ws) gs in
    let here : AreCuts (w ∷ drop (i + 1) ws) (map glyph_of rest) = subst P (at_shape ws i d h) had in
    subst Q (sym (ap (map glyph_of) back ∙ sym (drop-map glyph_of (size w) rest))) here.1
