-- Any number of paragraphs and headings of a page where they are in it: their contents may be edited.
use Rattle.std.proofs.Common.{◌≡◌, ℕ, Bool, List, [], ◌∷◌, ◌++◌, length, refl, ap, ◌∙◌, sym, subst, append_assoc}
use Rattle.std.proofs.lemmas.Grind.{flat_map-append}
use Rattle.wt_span.specs.Items.{Item, source, sources}
use Rattle.wt_expand.specs.PageItems.{page_items}
use Rattle.wt_expand.specs.Work.{Pages}
use Rattle.wt_text_edit_laws.specs.BlockSpots.{BlockSpot, spots_source}
use Rattle.wt_text_edit_laws.specs.PageCuts.{IsSpotCut, EndsThere, AreCuts, AreFree}
use Rattle.wt_text_edit_laws.specs.TextBlocks.{TextBlock, source_of}
use Rattle.wt_text_edit_laws.proofs.Cuts.ItemCuts.{front_alone, behind_alone}
use Rattle.wt_beside_laws.proofs.Derived.BlockContents.{block_source, there_begins}
use Rattle.wt_beside_laws.proofs.Derived.BodyRead.{parts_are}
use Rattle.wt_beside_laws.proofs.Derived.CutPages.{cut_read}
use Rattle.wt_called_edit_laws.specs.AnyBlocks.{open_behind_part, LeadsInto, past_break, BeginsAfter, EndsAfter}
use Rattle.wt_called_edit_laws.specs.CalledContents.{AreItemsOf}
use Rattle.wt_called_edit_laws.specs.StaysIn.{StaysIn}
use Rattle.wt_called_edit_laws.specs.CalledPages.{IsCalledPage}
use Rattle.wt_called_edit_laws.specs.ItemSpots.{items_of_spots, ArePlacedAfter, ArePlaced}
use Rattle.wt_called_edit_laws.specs.PlacedSpots.{AreFurtherIn, AreBlocksIn, IsPlacedPage}
use Rattle.wt_called_edit_laws.proofs.CalmPages.{calm_contents}
use Rattle.wt_called_edit_laws.proofs.Cells.ContentItems.{items_by}
use Rattle.wt_called_edit_laws.proofs.Cells.PlacedBlocks.{stays_in}
use Rattle.wt_called_edit_laws.proofs.Told.FreeNodes.{page_free}
use Rattle.wt_called_edit_laws.proofs.Told.OwnReads.{AllRead, further_there, page_read}

-- ---- each part by itself

record PartItems (s : BlockSpot) (ss : List BlockSpot) (behind : List ℕ) (before own rest : List Item) : Type 0 where
  front : page_items s.before ≡ before
  last : page_items (spots_source ss behind) ≡ rest
  stays : (bs : List Bool) (xs : List Item) → StaysIn s.block bs xs own → StaysIn s.block bs xs (page_items s.text)

part_alone : (s : BlockSpot) (ss : List BlockSpot) (behind : List ℕ) (zs : List Item) (c : IsSpotCut s zs)
    → page_items (spots_source (s ∷ ss) behind) ≡ zs → EndsThere (spots_source ss behind) → PartItems s ss behind c.before c.own c.rest
part_alone s ss behind zs c e there =
    let line : List ℕ = source_of s.block s.text in
    let sr : List ℕ = spots_source ss behind in
    let whole : page_items (s.before ++ (line ++ sr)) ≡ c.before ++ (c.own ++ c.rest) = e ∙ c.is in
    let joined : page_items ((s.before ++ line) ++ sr) ≡ (c.before ++ c.own) ++ c.rest =
    ap page_items (append_assoc s.before line sr) ∙ whole ∙ sym (append_assoc c.before c.own c.rest) in
    let source_is : sources (c.before ++ c.own) ≡ s.before ++ line =
    flat_map-append source c.before c.own ∙ ap (λ (bs : List ℕ). bs ++ sources c.own) c.source
    ∙ ap (λ (bs : List ℕ). s.before ++ bs) (block_source s.block s.text c.own c.block) in
    let again : page_items (sources c.before ++ (sources c.own ++ sources c.rest)) ≡ c.before ++ (c.own ++ c.rest) =
    ap page_items (parts_are (s.before ++ (line ++ sr)) c.before c.own c.rest whole) ∙ whole in
    record {
      front = front_alone s.before (line ++ sr) c.before (c.own ++ c.rest) whole c.source;
      last = behind_alone (s.before ++ line) sr (c.before ++ c.own) c.rest (there_begins sr there) joined source_is;
      stays = λ bs xs h. stays_in s.block bs xs s.text c.before c.own c.rest c.block again h;
    }

-- ---- where they stand

further_placed : (last : TextBlock) (bs : List Bool) (ss : List BlockSpot) (behind : List ℕ) (zs : List Item) → AllRead ss
    → page_items (spots_source ss behind) ≡ zs → AreFurtherIn last bs ss behind zs → ArePlacedAfter last bs (items_of_spots ss) (page_items behind)
further_placed last bs [] behind zs r e h = subst (EndsAfter last (length bs)) (sym e) h.1
further_placed last bs (s ∷ ss) behind zs r e h =
    let c : IsSpotCut s zs = h.0 in
    let now : List Bool = open_behind_part bs (past_break c.before) in
    let p = part_alone s ss behind zs c e (further_there s.block now ss behind c.rest h.6) in
    let P : List Item → Type 0 = λ (xs : List Item). BeginsAfter last s.block bs xs
    × (AreItemsOf s.block (page_items s.text) × LeadsInto s.block bs (past_break xs)
    × StaysIn s.block bs (past_break xs) (page_items s.text))
    × ArePlacedAfter s.block (open_behind_part bs (past_break xs)) (items_of_spots ss) (page_items behind) in
    subst P (sym p.front) (
      h.3,
      (items_by s.block s.text r.0.is, h.4, p.stays bs (past_break c.before) h.5),
      further_placed s.block now ss behind c.rest r.1 p.last h.6,
    )

placed : (ss : List BlockSpot) (behind : List ℕ) → AllRead ss → AreBlocksIn ss behind → ArePlaced (items_of_spots ss) (page_items behind)
placed [] behind r h = absurd h
placed (s ∷ ss) behind r h =
    let zs : List Item = page_items (spots_source (s ∷ ss) behind) in
    let c : IsSpotCut s zs = h.0 in
    let now : List Bool = open_behind_part [] c.before in
    let p = part_alone s ss behind zs c refl (further_there s.block now ss behind c.rest h.4) in
    let P : List Item → Type 0 = λ (xs : List Item).
    (AreItemsOf s.block (page_items s.text) × LeadsInto s.block [] xs × StaysIn s.block [] xs (page_items s.text))
    × ArePlacedAfter s.block (open_behind_part [] xs) (items_of_spots ss) (page_items behind) in
    subst P (sym p.front) (
      (items_by s.block s.text r.0.is, h.2, p.stays [] c.before h.3),
      further_placed s.block now ss behind c.rest r.1 p.last h.4,
    )

-- The page is cut at them, and no part of one can only be kept as a whole.
pub record AreCutFree (ss : List BlockSpot) (behind : List ℕ) : Type 0 where
  pub cuts : AreCuts ss behind
  pub placed : ArePlaced (items_of_spots ss) (page_items behind)
  pub free : AreFree ss

pub spots_free : (ss : List BlockSpot) (behind : List ℕ) → IsPlacedPage ss behind → AreCutFree ss behind
spots_free ss behind h =
    let p = page_read ss behind h.utf8 h.calls_nothing h.closed h.blocks in
    let there : ArePlaced (items_of_spots ss) (page_items behind) = placed ss behind p.read h.blocks in
    record { cuts = p.cuts; placed = there; free = page_free ss behind p.read h.shut there p.items h.ungrouped }

pub spots_called : (pages : Pages) (ss : List BlockSpot) (behind : List ℕ) → IsPlacedPage ss behind → IsCalledPage pages ss behind
spots_called pages ss behind h =
    let f : AreCutFree ss behind = spots_free ss behind h in
    calm_contents pages ss behind (record {
      read = cut_read ss behind h.utf8 h.calls_nothing f.cuts f.free;
      placed = f.placed;
      ungrouped = h.ungrouped;
    })
