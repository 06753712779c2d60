-- Where each of the blocks, which may hold calls, has a byte that no group of the page's tree has, no node round them is in a group.
use Rattle.std.proofs.Common.{◌≡◌, ℕ, suc, None, List, [], ◌∷◌, map, length, refl, sym, ap, ◌∙◌, subst, append-nil}
use Rattle.wt_tree.specs.Tree.{Tree}
use Rattle.wt_span.specs.Origins.{OuterCall}
use Rattle.wt_inline.specs.ItemTree.{ItemTree, tree_items}
use Rattle.wt_expand.specs.Expansion.{page_work}
use Rattle.wt_expand.specs.PageCalls.{expanded_page}
use Rattle.wt_expand.specs.Work.{Pages, first_refusal}
use Rattle.wt_page.specs.Body.{meaning}
use Rattle.wt_annotated.specs.Annotated.{annotated}
use Rattle.wt_annotated.specs.GroupData.{group_data}
use Rattle.wt_annotated.specs.Seams.{text_from}
use Rattle.wt_annotated.proofs.Seams.{page_is}
use Rattle.wt_page_round_trip.proofs.HeldPages.{its_page}
use Rattle.wt_part_laws.specs.Frames.{Frames, trees_at, all_places, content}
use Rattle.wt_part_laws.specs.HeldCalls.{AllHold}
use Rattle.wt_part_laws.specs.Rounded.{AreClean, AreCleanThere}
use Rattle.wt_part_laws.proofs.FrameEnds.{held}
use Rattle.wt_text_edit_laws.specs.BlockSpots.{BlockSpot, spots_source}
use Rattle.wt_text_edit_laws.specs.ParagraphBetween.{body_with}
use Rattle.wt_text_edit_laws.proofs.Blocks.Contents.{block_source as source_is}
use Rattle.wt_called_edit_laws.specs.CalledBlocks.{tree_by, counted}
use Rattle.wt_called_edit_laws.specs.CallingBlocks.{AreEdited, AreCallingBlocks, tree_with_calls, CallingBlocksStand}
use Rattle.wt_called_edit_laws.specs.CallingEdits.{AllTakeLetters}
use Rattle.wt_called_edit_laws.specs.CallingGroups.{AreCallingOutside}
use Rattle.wt_called_edit_laws.specs.Covered.{HasFreeByte, HaveFreeBytes}
use Rattle.wt_called_edit_laws.specs.Groups.{called_tree}
use Rattle.wt_called_edit_laws.specs.Parts.{calls_past}
use Rattle.wt_called_edit_laws.specs.WrittenAnew.{EachHolds}
use Rattle.wt_called_edit_laws.proofs.CalledUtf8.{called_utf8}
use Rattle.wt_called_edit_laws.proofs.CallingGaps.{FillsEdited, gaps_by_letters}
use Rattle.wt_called_edit_laws.proofs.CallingGroups.{calls_kept, edited_self, edited_round, stand_again}
use Rattle.wt_called_edit_laws.proofs.CallNumbers.{IsCallOf, by_numbers, blocks_there}
use Rattle.wt_called_edit_laws.proofs.Cells.CallingFrames.{edited_anew, calling_stand, calling_again}
use Rattle.wt_called_edit_laws.proofs.Cells.PlaceGaps.{Gaps, last_gap, numbers_in, fill, sources_at, own_sources, AreSame, sources_counted, count_counted, many_by}
use Rattle.wt_called_edit_laws.proofs.Cells.SpotTrees.{counted_same}
use Rattle.wt_called_edit_laws.proofs.EndCuts.{blocks_clean, round_clean}
use Rattle.wt_called_edit_laws.proofs.FreePlaces.{clean_where_free}
use Rattle.wt_called_edit_laws.proofs.GroupsOfPage.{block_places}
use Rattle.wt_called_edit_laws.proofs.Parts.Retyped.{expanded_again}
use Rattle.wt_called_edit_laws.proofs.PlaceBytes.{text_gaps, all_numbers, HaveTexts, page_fill, gaps_same, page_places}
use Rattle.wt_called_edit_laws.proofs.SpotSources.{AreItsTexts, blocks_text}
use Rattle.wt_called_edit_laws.proofs.Squashed.{all_squashed, trees_squashed, places_squashed, frames_squashed, squashed_hold}
use Rattle.wt_called_edit_laws.proofs.TextsUntangled.{AreThere, all_there}
use Rattle.wt_called_edit_laws.proofs.Written.AllHeld.{all_hold}

-- ---- what is on the page for a block

texts_up : (calls : List OuterCall) (t w : ℕ → ItemTree) (ns : List ℕ) → HaveTexts calls (λ n. t (suc n)) (λ n. w (suc n)) ns → HaveTexts calls t w (map suc ns)
texts_up calls t w [] h = tt
texts_up calls t w (n ∷ ns) h = (h.0, texts_up calls t w ns h.1)

have_texts : (calls : List OuterCall) (pages : Pages) (k : ℕ) (ss : List BlockSpot) → AreItsTexts calls pages k ss
    → HaveTexts calls (tree_with_calls pages k ss) (tree_by ss) (counted ss)
have_texts calls pages k [] t = tt
have_texts calls pages k (s ∷ ss) t = (
  t.0 ∙ sym (source_is s.block s.text),
  texts_up calls (tree_with_calls pages k (s ∷ ss)) (tree_by (s ∷ ss)) (counted ss) (have_texts calls pages (calls_past pages k s) ss t.1),
)

-- ---- the page between its places

squashed_stand : (pages : Pages) (ss : List BlockSpot) (behind : List ℕ) → CallingBlocksStand pages ss behind → CallingBlocksStand pages ss behind
squashed_stand pages ss behind f = record {
  frames = all_squashed f.frames;
  of_cells = frames_squashed f.frames _ f.of_cells;
  in_order = places_squashed f.frames ∙ f.in_order;
  means = λ rs t. f.means rs t ∙ ap body_with (sym (trees_squashed (tree_with_calls pages 0 rs) f.frames));
}

texts_there : (pages : Pages) (ss : List BlockSpot) (behind : List ℕ) → CallingBlocksStand pages ss behind → AreCallingBlocks pages ss behind
    → first_refusal pages (spots_source ss behind) (page_work pages (spots_source ss behind)) ≡ None
    → HaveTexts (expanded_page pages (spots_source ss behind)).outer (tree_with_calls pages 0 ss) (tree_by ss) (counted ss)
texts_there pages ss behind f h e = have_texts (expanded_page pages (spots_source ss behind)).outer pages 0 ss (blocks_text pages ss behind h f e)

-- with any contents beside their calls the blocks are clean where they are
there_again : (pages : Pages) (ss rs : List BlockSpot) (behind : List ℕ) → AreCallingBlocks pages ss behind → (f : CallingBlocksStand pages ss behind)
    → first_refusal pages (spots_source ss behind) (page_work pages (spots_source ss behind)) ≡ None → AreEdited pages ss rs
    → AllHold (tree_with_calls pages 0 rs) (counted rs) → AreCleanThere (tree_with_calls pages 0 rs) None f.frames None
there_again pages ss rs behind h f e t o =
    blocks_clean (IsCallOf pages 0 ss) (tree_with_calls pages 0 rs) f.frames (length ss) (by_numbers pages ss behind h f e) (blocks_there pages ss rs behind h f e t o)

page_text : (pages : Pages) (ss rs : List BlockSpot) (behind : List ℕ) (h : AreCallingBlocks pages ss behind) (f : CallingBlocksStand pages ss behind)
    → first_refusal pages (spots_source ss behind) (page_work pages (spots_source ss behind)) ≡ None → AreEdited pages ss rs
    → text_from (expanded_page pages (spots_source rs behind)).outer None (held (tree_with_calls pages 0 rs) f.frames) ≡ spots_source rs behind
page_text pages ss rs behind h f free t =
    let page : List ℕ = spots_source rs behind in
    let calls : List OuterCall = (expanded_page pages page).outer in
    let again = expanded_again pages ss rs behind h.called (edited_anew pages ss rs t) in
    ap (text_from calls None) (sym (append-nil (held (tree_with_calls pages 0 rs) f.frames)))
    ∙ ap (λ m. text_from calls None (tree_items m)) (sym (f.means rs t))
    ∙ sym (page_is calls (tree_items (meaning (expanded_page pages page).items)))
    ∙ its_page pages page (called_utf8 pages rs behind again.called) (again.unrefused free)

abbrev page_gaps : Pages → (ss : List BlockSpot) (behind : List ℕ) → Frames → Gaps
page_gaps pages ss behind fs = text_gaps (expanded_page pages (spots_source ss behind)).outer None fs (last_gap [])

fills_page : (pages : Pages) (ss : List BlockSpot) (behind : List ℕ) (h : AreCallingBlocks pages ss behind) (f : CallingBlocksStand pages ss behind)
    → first_refusal pages (spots_source ss behind) (page_work pages (spots_source ss behind)) ≡ None
    → FillsEdited pages (page_gaps pages ss behind f.frames) ss behind
fills_page pages ss behind h f free = λ rs t o.
    let calls : List OuterCall = (expanded_page pages (spots_source ss behind)).outer in
    let others : List OuterCall = (expanded_page pages (spots_source rs behind)).outer in
    let now : ℕ → ItemTree = tree_with_calls pages 0 rs in
    let again = expanded_again pages ss rs behind h.called (edited_anew pages ss rs t) in
    let places : counted rs ≡ all_places f.frames = counted_same ss rs (edited_round pages ss rs t) ∙ sym f.in_order in
    let g : Gaps = text_gaps others None f.frames (last_gap []) in
    ap (fill (own_sources rs)) (gaps_same calls others (calls_kept pages ss rs behind h t) None f.frames (last_gap []) (last_gap []) refl)
    ∙ ap (λ (ts : List (List ℕ)). fill ts g)
    (sym (ap (λ (is : List ℕ). sources_at (tree_by rs) is []) (sym places) ∙ sources_counted rs))
    ∙ page_fill others now (tree_by rs) f.frames (last_gap []) []
    (subst (HaveTexts others now (tree_by rs)) places
    (texts_there pages rs behind (stand_again pages ss rs behind f t) (calling_again pages ss rs behind h t) (again.unrefused free)))
    (there_again pages ss rs behind h f free t (all_hold pages rs o))
    ∙ append-nil (text_from others None (held now f.frames))
    ∙ page_text pages ss rs behind h f free t

-- ---- the page

pub blocks_outside : (pages : Pages) (ss : List BlockSpot) (behind : List ℕ) → AreCallingBlocks pages ss behind → EachHolds pages ss → AllTakeLetters pages ss
    → first_refusal pages (spots_source ss behind) (page_work pages (spots_source ss behind)) ≡ None
    → HaveFreeBytes 0 ss (called_tree pages (spots_source ss behind)) → AreCallingOutside pages ss behind
unfolding squashed_stand
blocks_outside pages ss behind h hold letters free g =
    let page : List ℕ = spots_source ss behind in
    let calls : List OuterCall = (expanded_page pages page).outer in
    let f : CallingBlocksStand pages ss behind = squashed_stand pages ss behind (calling_stand pages ss behind h) in
    let fs : Frames = f.frames in
    let t : ℕ → ItemTree = tree_with_calls pages 0 ss in
    let w : ℕ → ItemTree = tree_by ss in
    let u : Tree = annotated calls (group_data calls) (body_with (trees_at t fs)) in
    let self : AreEdited pages ss ss = edited_self pages ss in
    let held : AllHold t (counted ss) = all_hold pages ss hold in
    let inside : HaveFreeBytes 0 ss u = subst (λ m. HaveFreeBytes 0 ss (annotated calls (group_data calls) m)) (f.means ss self) g in
    let gaps : Gaps = page_gaps pages ss behind fs in
    let numbers : numbers_in gaps ≡ counted ss = all_numbers calls None fs (last_gap []) ∙ append-nil (all_places fs) ∙ f.in_order in
    let same : AreSame gaps ss =
    gaps_by_letters pages gaps ss behind (many_by gaps ss (ap length numbers ∙ count_counted ss)) hold letters (fills_page pages ss behind h f free) in
    let texts : HaveTexts calls t w (all_places fs) = subst (HaveTexts calls t w) (sym f.in_order) (texts_there pages ss behind f h free) in
    let there : AreCleanThere t None fs None = there_again pages ss ss behind h f free self held in
    let at = page_places (HasFreeByte u) calls t w fs (last_gap []) texts there
    (block_places u w [] gaps ss 0 refl same (subst (λ (ns : List ℕ). AreThere w ns ss) (sym numbers) (all_there ss)) inside) in
    let round : AreClean t None fs None = clean_where_free calls fs t f.of_cells (squashed_hold (calling_stand pages ss behind h).frames) at in
    record {
      blocks = h;
      stand = f;
      hold = held;
      clean = λ rs e o. (
        round_clean (IsCallOf pages 0 ss) t (tree_with_calls pages 0 rs) fs content (length ss) (by_numbers pages ss behind h f free) f.of_cells
            (blocks_there pages ss ss behind h f free self held) (blocks_there pages ss rs behind h f free e o) round,
        there_again pages ss rs behind h f free e o,
      );
    }
