-- A page with blocks anywhere means a tree with its blocks at places, which are the same whatever the texts are.
use Rattle.std.proofs.Common.{◌≡◌, ℕ, zero, suc, Bool, List, [], ◌∷◌, ◌++◌, length, map, refl, ap, ◌∙◌, inl}
use Rattle.wt_span.specs.Items.{Item}
use Rattle.wt_page.specs.Body.{meaning}
use Rattle.wt_expand.specs.PageItems.{page_items}
use Rattle.wt_text_edit_laws.specs.BlockSpots.{BlockSpot, SameRound}
use Rattle.wt_text_edit_laws.specs.TextBlocks.{TextBlock}
use Rattle.wt_text_edit_laws.proofs.Blocks.BlockReading.{spots_items}
use Rattle.wt_text_edit_laws.proofs.Blocks.Contents.{block_content}
use Rattle.wt_text_edit_laws.proofs.Blocks.TypedBraces.{AreNewOver}
use Rattle.wt_called_edit_laws.specs.AnyBlocks.{open_behind_part, IsTextRead, IsSpotAt, past_break, AreSpotsAfter, AreParts}
use Rattle.wt_called_edit_laws.specs.ItemSpots.{items_of_spot, items_of_spots, placed_items, IsPlacedAt, ArePlacedAfter, ArePlaced, SameItems, AreNewIn}
use Rattle.wt_called_edit_laws.proofs.Cells.ContentItems.{round_is, tree_is, content_items, stay_items, over_items}
use Rattle.wt_called_edit_laws.proofs.Cells.ItemFrames.{counted_in, items_framed}
use Rattle.wt_called_edit_laws.specs.CalledContents.{items_round}
use Rattle.wt_called_edit_laws.proofs.Cells.PlaceTrees.{tree_by, counted, Framed}
use Rattle.wt_called_edit_laws.proofs.Cells.SpotRows.{trees_by}

-- ---- its blocks are placed among its items

placed_at : (bs : List Bool) (xs : List Item) (s : BlockSpot) → IsSpotAt bs xs s → IsPlacedAt bs xs (items_of_spot s)
placed_at bs xs s h =
    let r : IsTextRead s = h.0 in
    (content_items s.block s.text (block_content s.block s.text r.block), h.1, inl (stay_items s.block (length (open_behind_part bs xs)) s.text h.2))

placed_after : (last : TextBlock) (bs : List Bool) (ss : List BlockSpot) (behind : List ℕ) → AreSpotsAfter last bs ss behind
    → ArePlacedAfter last bs (items_of_spots ss) (page_items behind)
placed_after last bs [] behind h = h.2
placed_after last bs (s ∷ ss) behind h = (
  h.0,
  placed_at bs (past_break (page_items s.before)) s h.1,
  placed_after s.block (open_behind_part bs (past_break (page_items s.before))) ss behind h.2,
)

pub parts_placed : (ss : List BlockSpot) (behind : List ℕ) → AreParts ss behind → ArePlaced (items_of_spots ss) (page_items behind)
parts_placed [] behind h = absurd h
parts_placed (s ∷ ss) behind h =
    (placed_at [] (page_items s.before) s h.0, placed_after s.block (open_behind_part [] (page_items s.before)) ss behind h.1)

items_are : (ss : List BlockSpot) (behind : List ℕ) → spots_items ss behind ≡ placed_items (items_of_spots ss) (page_items behind)
items_are [] behind = refl
items_are (s ∷ ss) behind =
    ap (λ (xs : List Item). page_items s.before ++ (xs ++ spots_items ss behind)) (round_is s.block s.text)
    ∙ ap (λ (xs : List Item). page_items s.before ++ (items_round s.block (page_items s.text) ++ xs)) (items_are ss behind)

same_items : (ss rs : List BlockSpot) → SameRound ss rs → SameItems (items_of_spots ss) (items_of_spots rs)
same_items [] [] e = tt
same_items [] (r ∷ rs) e = absurd e
same_items (s ∷ ss) [] e = absurd e
same_items (s ∷ ss) (r ∷ rs) e = (ap page_items e.0, e.1, same_items ss rs e.2)

new_in : (ss rs : List BlockSpot) → AreNewOver ss rs → AreNewIn (items_of_spots ss) (items_of_spots rs)
new_in [] rs o = tt
new_in (s ∷ ss) [] o = tt
new_in (s ∷ ss) (r ∷ rs) o = (over_items r.block s.text r.text o.0, new_in ss rs o.1)

counted_same : (ss : List BlockSpot) → counted_in (items_of_spots ss) ≡ counted ss
counted_same [] = refl
counted_same (s ∷ ss) = ap (λ (ns : List ℕ). 0 ∷ map suc ns) (counted_same ss)

trees_same : (ss : List BlockSpot) (i : ℕ) → tree_by ss i ≡ trees_by (items_of_spots ss) i
trees_same [] i = refl
trees_same (s ∷ ss) zero = tree_is s.block s.text
trees_same (s ∷ ss) (suc i) = trees_same ss i

pub framed : (ss : List BlockSpot) (behind : List ℕ) → AreParts ss behind → Framed ss behind
framed ss behind h =
    let f = items_framed (items_of_spots ss) (page_items behind) (parts_placed ss behind h) in
    record {
      frames = f.frames;
      of_cells = f.of_cells;
      in_order = f.in_order ∙ counted_same ss;
      means = λ rs e b o. ap meaning (items_are rs behind) ∙ f.means (items_of_spots rs) (tree_by rs) (same_items ss rs e) (new_in ss rs o) (trees_same rs);
    }
