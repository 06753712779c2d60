-- The tiles of a context: their items are texts in UTF-8 and whole forms, and so are those of each part.
use Rattle.std.proofs.Common.{◌≡◌, ℕ, zero, suc, ◌+◌, ◌-◌, ◌<◌, ◌≤◌, ◌⊎◌, Bool, true, false, Some, List, [], ◌∷◌, ◌++◌, length, map, take, drop, refl, sym, ap, ◌∙◌, subst, arith, inl, inr, length-drop}
use Rattle.std.specs.List.{AllByRecursion}
use Rattle.std.proofs.lemmas.Bool.{ltb-true}
use Rattle.std.proofs.lemmas.List.{length-map, length-take-le, take-map, drop-map, take-append-drop, take_all, drop_all, drop-drop}
use Rattle.std.proofs.lemmas.Str.{IsUtf8-nil}
use Rattle.wt_span.specs.Items.{Item, char, whole}
use Rattle.wt_tiles.specs.declared.context.Context.{Context}
use Rattle.wt_tiles.specs.declared.glyph.Glyph.{Glyph}
use Rattle.wt_tiles.specs.declared.shape.Shape.{Shape}
use Rattle.wt_tiles.specs.declared.shape.TileKind.{TileKind}
use Rattle.wt_tiles.specs.declared.shape.TileKind.TheVariants as kind
use Rattle.wt_tiles.specs.Glyphs.{glyph_of}
use Rattle.wt_tiles.specs.Tiles.{size, shapes, parts, tiles}
use Rattle.wt_tiles.specs.Edges.{low_at, low_before, IsEdge}
use Rattle.wt_tiles.specs.Cutting.{IsEdgeIn, AreCuts}
use Rattle.wt_tiles.specs.Reading.{tile_at, IsForm, StandsBy, is_word_at, AreTiles}
use Rattle.wt_tiles.proofs.Words.{false_true, low_drop}
use Rattle.wt_tiles.proofs.LinkFits.{Fits}
use Rattle.wt_tiles.proofs.Fits.{tile_fits}
use Rattle.wt_tiles.proofs.Readings.{shapes_are}
use Rattle.wt_tiles.proofs.Joining.{cuts_are, tiles_are}
use Rattle.wt_context.specs.TileParts.{HasCuts}
use Rattle.wt_page_round_trip.proofs.TextItems.{AreTexts, BeginsLow, EndsLow, cut_after, cut_items_before}
use Rattle.wt_page_round_trip.proofs.OfPage.{IsPageItem, ArePageItems}
use Rattle.wt_page_round_trip.proofs.PageLines.{all_taken, all_dropped}

-- ---- cuts beside a character of one byte

pub begins_by : (xs : List Item) (n : ℕ) → low_at (map glyph_of xs) n ≡ true → BeginsLow (drop n xs)
begins_by [] n e = false_true e
begins_by (char o b ∷ xs) zero e = ltb-true b 128 e
begins_by (whole f o bs ∷ xs) zero e = tt
begins_by (x ∷ xs) (suc n) e = begins_by xs n e

pub ends_by : (xs : List Item) (n : ℕ) → low_at (map glyph_of xs) n ≡ true → EndsLow (take (suc n) xs)
ends_by [] n e = false_true e
ends_by (char o b ∷ xs) zero e = ltb-true b 128 e
ends_by (whole f o bs ∷ xs) zero e = tt
ends_by (x ∷ []) (suc n) e = false_true e
ends_by (x ∷ y ∷ xs) (suc n) e = ends_by (y ∷ xs) n e

abbrev AreCutAt : List Item → ℕ → Type 0
AreCutAt xs n = AreTexts [] (take n xs) × AreTexts [] (drop n xs)

parted : (xs : List Item) (n : ℕ) → AreTexts [] xs → AreTexts [] (take n xs ++ drop n xs)
parted xs n t = subst (AreTexts []) (sym (take-append-drop n xs)) t

no_items : AreTexts [] []
no_items = IsUtf8-nil

low_cut : (xs : List Item) (n : ℕ) → AreTexts [] xs → low_at (map glyph_of xs) n ≡ true → AreCutAt xs n
low_cut xs n t e = cut_items_before [] (take n xs) (drop n xs) (begins_by xs n e) (parted xs n t)

before_cut : (xs : List Item) (n : ℕ) → AreTexts [] xs → low_before (map glyph_of xs) n ≡ true → AreCutAt xs n
before_cut xs zero t e = false_true e
before_cut xs (suc n) t e = cut_after (take (suc n) xs) (drop (suc n) xs) (ends_by xs n e) (parted xs (suc n) t)

end_cut : (xs : List Item) (n : ℕ) → AreTexts [] xs → length xs ≤ n → AreCutAt xs n
end_cut xs n t le = (subst (AreTexts []) (sym (take_all n xs le)) t, subst (AreTexts []) (sym (drop_all n xs le)) no_items)

pub edge_cut : (xs : List Item) (n : ℕ) → AreTexts [] xs → IsEdgeIn xs n → AreTexts [] (take n xs) × AreTexts [] (drop n xs)
edge_cut xs n t (inl e) = end_cut xs n t (omega (arith, e, length-map xs glyph_of))
edge_cut xs n t (inr (inl e)) = low_cut xs n t e
edge_cut xs n t (inr (inr e)) = before_cut xs n t e

-- where n is 0 there is nothing to cut
pub edge_cut_if : (xs : List Item) (n : ℕ) → AreTexts [] xs → (0 < n → IsEdgeIn xs n) → AreTexts [] (take n xs) × AreTexts [] (drop n xs)
edge_cut_if xs zero t h = (no_items, t)
edge_cut_if xs (suc n) t h = edge_cut xs (suc n) t (h (omega arith))

-- ---- items of a page

pub taken_items : (xs : List Item) (n : ℕ) → ArePageItems xs → (0 < n → IsEdgeIn xs n) → ArePageItems (take n xs)
taken_items xs n h e = record { texts = (edge_cut_if xs n h.texts e).0; page = all_taken IsPageItem n xs h.page }

pub dropped_items : (xs : List Item) (n : ℕ) → ArePageItems xs → (0 < n → IsEdgeIn xs n) → ArePageItems (drop n xs)
dropped_items xs n h e = record { texts = (edge_cut_if xs n h.texts e).1; page = all_dropped IsPageItem n xs h.page }

-- ---- the parts of a tile

pub record AreParts (w : Shape) (xs : List Item) : Type 0 where
  pub opening : ArePageItems (take w.opening xs)
  pub inside : ArePageItems (take w.inside (drop w.opening xs))
  pub closing : ArePageItems (take w.closing (drop (w.opening + w.inside) xs))
  pub trail : ArePageItems (drop (w.opening + w.inside + w.closing) xs)

drop_more_items : (xs : List Item) (m n : ℕ) → ArePageItems (drop n (drop m xs)) → ArePageItems (drop (m + n) xs)
drop_more_items xs m n h = subst ArePageItems (drop-drop n m xs) h

pub parts_of_page : (w : Shape) (xs : List Item) → HasCuts w xs → ArePageItems xs → AreParts w xs
parts_of_page w xs c h =
    let behind : ArePageItems (drop w.opening xs) = dropped_items xs w.opening h c.opening in
    let later : ArePageItems (drop (w.opening + w.inside) xs) =
    drop_more_items xs w.opening w.inside (dropped_items (drop w.opening xs) w.inside behind c.inside) in
    record {
      opening = taken_items xs w.opening h c.opening;
      inside = taken_items (drop w.opening xs) w.inside behind c.inside;
      closing = taken_items (drop (w.opening + w.inside) xs) w.closing later c.closing;
      trail = drop_more_items xs (w.opening + w.inside) w.closing (dropped_items (drop (w.opening + w.inside) xs) w.closing later c.closing);
    }

-- ---- the cuts of a form, by all items that it begins

low_take : (gs : List Glyph) (m k : ℕ) → k < m → low_at (take m gs) k ≡ low_at gs k
low_take gs zero k l = absurd (omega arith)
low_take [] (suc m) k l = refl
low_take (g ∷ gs) (suc m) zero l = refl
low_take (g ∷ gs) (suc m) (suc k) l = low_take gs m k (omega arith)

at_or_before : (n m : ℕ) → n ≤ m → (n < m) ⊎ (n ≡ m)
at_or_before zero zero l = inr refl
at_or_before zero (suc m) l = inl (omega arith)
at_or_before (suc n) zero l = absurd (omega arith)
at_or_before (suc n) (suc m) l = later (at_or_before n m (omega arith))
  where
    later : ((n < m) ⊎ (n ≡ m)) → (suc n < suc m) ⊎ (suc n ≡ suc m)
    later (inl h) = inl (omega arith)
    later (inr h) = inr (ap suc h)

edge_take : (gs : List Glyph) (m n : ℕ) → n ≤ m → m ≤ length gs → IsEdge gs n → IsEdge (take m gs) n
edge_take gs m n l w e = by (at_or_before n m l) e
  where
    full : length (take m gs) ≡ m
    full = length-take-le m gs w

    before : (k : ℕ) → n ≡ k → n < m → low_before gs k ≡ true → low_before (take m gs) k ≡ true
    before zero i h b = b
    before (suc k) i h b = low_take gs m k (omega (arith, i, h)) ∙ b

    by : ((n < m) ⊎ (n ≡ m)) → IsEdge gs n → IsEdge (take m gs) n
    by (inr h) f = inl (omega (arith, h, full))
    by (inl h) (inl i) = absurd (omega (arith, i, h, w))
    by (inl h) (inr (inl i)) = inr (inl (low_take gs m n h ∙ i))
    by (inl h) (inr (inr i)) = inr (inr (before n refl h i))

edge_drop : (hs : List Glyph) (a b c : ℕ) → 0 < b → c ≡ a + b → IsEdge hs c → IsEdge (drop a hs) b
edge_drop hs a b c pos e (inl i) = inl (omega (arith, i, e, length-drop a hs))
edge_drop hs a b c pos e (inr (inl i)) = inr (inl (low_drop a b hs ∙ ap (low_at hs) (sym e) ∙ i))
edge_drop hs a zero c pos e (inr (inr i)) = absurd (omega arith)
edge_drop hs a (suc k) zero pos e (inr (inr i)) = absurd (omega (arith, e))
edge_drop hs a (suc k) (suc m) pos e (inr (inr i)) = let z : m ≡ a + k = omega (arith, e) in inr (inr (low_drop a k hs ∙ ap (low_at hs) (sym z) ∙ i))

edge_in : (xs : List Item) (w : Shape) (a b n : ℕ) → size w ≤ length xs → n ≤ size w → n ≡ a + b → 0 < b → IsEdge (map glyph_of xs) n
    → IsEdgeIn (drop a (take (size w) xs)) b
edge_in xs w a b n le l e pos edge =
    let m : size w ≤ length (map glyph_of xs) = omega (arith, le, length-map xs glyph_of) in
    subst (λ (hs : List Glyph). IsEdge hs b) (sym (sym (drop-map glyph_of a (take (size w) xs)) ∙ ap (drop a) (sym (take-map glyph_of (size w) xs))))
    (edge_drop (take (size w) (map glyph_of xs)) a b n pos e (edge_take (map glyph_of xs) (size w) n l m edge))

pub cuts_of : (xs : List Item) (w : Shape) → size w ≤ length xs → Fits (map glyph_of xs) w → HasCuts w (take (size w) xs)
cuts_of xs w le f =
    record {
      whole = length-take-le (size w) xs le;
      opening = λ pos. edge_in xs w 0 w.opening w.opening le (omega arith) (omega arith) pos f.edges.opening;
      inside = λ pos. edge_in xs w w.opening w.inside (w.opening + w.inside) le (omega arith) refl pos f.edges.inside;
      closing = λ pos. edge_in xs w (w.opening + w.inside) w.closing (w.opening + w.inside + w.closing) le (omega arith) refl pos f.edges.closing;
    }

pub form_stands : (k : TileKind) (cx : Context) (after : Bool) (w : Shape) (gs : List Glyph) → IsForm k → StandsBy k cx after w gs
    → tile_at cx after gs ≡ Some w
form_stands kind.Link cx after w gs f h = h
form_stands kind.Category cx after w gs f h = h
form_stands kind.Media cx after w gs f h = h
form_stands kind.ExtLink cx after w gs f h = h
form_stands kind.BareUrl cx after w gs f h = h
form_stands kind.Br cx after w gs f h = h
form_stands kind.Pair cx after w gs f h = h
form_stands kind.TagIsland cx after w gs f h = h
form_stands kind.Switch cx after w gs f h = h
form_stands kind.Atom cx after w gs f h = h
form_stands kind.Mark cx after w gs f h = h
form_stands kind.Chars cx after w gs f h = absurd f

-- ---- all tiles

-- a form with its items, which begins others
pub record Begins (cx : Context) (w : Shape) (xs : List Item) : Type 0 where
  pub all : List Item
  pub after : Bool
  pub stands : tile_at cx after (map glyph_of all) ≡ Some w
  pub within : size w ≤ length all
  pub are : xs ≡ take (size w) all

-- what holds of a tile of a page
pub record IsPageTile (cx : Context) (p : Shape × List Item) : Type 0 where
  pub items : ArePageItems p.1
  pub cuts : IsForm p.0.kind → HasCuts p.0 p.1
  pub begins : IsForm p.0.kind → Begins cx p.0 p.1

parts_good : (cx : Context) (after : Bool) (ws : List Shape) (xs : List Item) (gs : List Glyph) → gs ≡ map glyph_of xs → AreTiles cx after ws gs
    → AreCuts ws gs → ArePageItems xs → AllByRecursion (IsPageTile cx) (parts ws xs)
parts_good cx after [] xs gs e h c p = tt
parts_good cx after (w ∷ ws) xs gs e (pos, le, stands, apart, rest) c p =
    let m : size w ≤ length xs = omega (arith, le, ap length e, length-map xs glyph_of) in
    let edge : 0 < size w → IsEdgeIn xs (size w) = λ z. subst (λ (hs : List Glyph). IsEdge hs (size w)) e c.0 in
    let form : IsForm w.kind → tile_at cx after (map glyph_of xs) ≡ Some w =
    λ f. subst (λ (hs : List Glyph). tile_at cx after hs ≡ Some w) e (form_stands w.kind cx after w gs f stands) in (
      record {
        items = taken_items xs (size w) p edge;
        cuts = λ f. cuts_of xs w m (tile_fits cx after (map glyph_of xs) w (form f));
        begins = λ f. record { all = xs; after = after; stands = form f; within = m; are = refl };
      },
      parts_good cx (is_word_at gs (size w - 1)) ws (drop (size w) xs) (drop (size w) gs) (ap (drop (size w)) e ∙ drop-map glyph_of (size w) xs) rest
          c.1 (dropped_items xs (size w) p edge),
    )

pub tiles_good : (cx : Context) (xs : List Item) → ArePageItems xs → AllByRecursion (IsPageTile cx) (tiles cx xs)
tiles_good cx xs p =
    subst (AllByRecursion (IsPageTile cx)) (sym (tiles_are cx xs))
    (parts_good cx false (shapes cx (map glyph_of xs)) xs (map glyph_of xs) refl (shapes_are cx (map glyph_of xs)) (cuts_are cx (map glyph_of xs)) p)
