-- The tree of a page with blocks anywhere, in one of which the text became another one.
use Rattle.std.proofs.Common.{arith, ◌≡◌, ℕ, ◌+◌, ◌<◌, ◌≤◌, ◌==◌, Option, Some, List, [], ◌++◌, sym, ap, ap₂, ◌∙◌, true}
use Rattle.wt_devices.specs.Device.{Pages}
use Rattle.wt_tree.specs.declared.kind.Ranges.{Ranges}
use Rattle.wt_tree.specs.declared.row.Texts.TheVariants.{Page}
use Rattle.wt_tree.specs.Tree.{Label, tree, Trees}
use Rattle.wt_inline.specs.ItemTree.{ItemTree, forest, held_by_all}
use Rattle.wt_annotated.specs.Labels.{width}
use Rattle.wt_sections.specs.Sections.{gathered, with_sections}
use Rattle.wt_page_round_trip.specs.PageTree.{page_tree}
use Rattle.wt_page_round_trip.proofs.PageTrees.{ungathered}
use Rattle.wt_inside_laws.specs.Replaced.{Edit, moved_label, with_inside, all_with_inside}
use Rattle.wt_part_laws.specs.Frames.{Frames, trees_at}
use Rattle.wt_text_edit_laws.specs.TextBlocks.{TextBlock}
use Rattle.wt_text_edit_laws.specs.BlockSpots.{BlockSpot, spots_source, SameRound}
use Rattle.wt_text_edit_laws.proofs.Blocks.TypedBraces.{AreTypedOver}
use Rattle.wt_text_edit_laws.proofs.Prose.ProseTrees.{blocks_of}
use Rattle.wt_called_edit_laws.specs.AnyBlocks.{AreSpots}
use Rattle.wt_called_edit_laws.proofs.Cells.FramesBorders.{page_borders}
use Rattle.wt_called_edit_laws.proofs.Cells.ManyNodes.{AllBorders}
use Rattle.wt_called_edit_laws.proofs.Cells.Nodes.{width_after}
use Rattle.wt_called_edit_laws.proofs.Cells.PlaceTrees.{tree_by, Framed}
use Rattle.wt_called_edit_laws.proofs.Cells.SpotTrees.{counted_same, tree_borders, nodes_over, over_tree, over_expanded}
use Rattle.wt_inside_laws.proofs.Behind.{test_below}
use Rattle.wt_inside_laws.proofs.EditPlaces.{FitsAt, EditIn}
use Rattle.wt_inside_laws.proofs.FramesReplaced.{AreReplaced, IsAhead, ahead, MovesBehind, moves, frames_replaced}
use Rattle.wt_inside_laws.proofs.InSections.{zero_stays, not_number, sections_moved}
use Rattle.wt_inside_laws.proofs.OneText.{moved_before, moved_behind, body_label, body_of, body_width}

-- ---- the body

-- it has no number, whatever is in it
opened : (e : Edit) (ts : List ItemTree) (us : Trees) → 1 ≤ e.number
    → with_inside e (tree (body_label ts) us) ≡ tree (moved_label e (body_label ts)) (all_with_inside e us)
opened e ts us first =
    ap (tree (moved_label e (body_label ts))) (not_number (0 == e.number) e.inside (all_with_inside e us) (test_below 0 e.number (omega (arith, first))))

-- it ends later
label_moved : (e : Edit) (us ws : List ItemTree) → 0 < e.old_end → MovesBehind e 1 [] us ws → moved_label e (body_label us) ≡ body_label ws
label_moved e us ws some h =
    let l : Label = body_label us in
    let a : ℕ = width (held_by_all (forest us) ++ []) in
    let b : ℕ = width (held_by_all (forest ws) ++ []) in
    let x = body_width us in
    let y = body_width ws in
    let wx = width_after [] us in
    let wy = width_after [] ws in
    let at = h.place in
    let new_at = h.new_place in
    ap₂ (λ (i : ℕ) (r : Option Ranges). record l { id = i; ranges = r }) (zero_stays e)
    (ap₂ (λ (x y : ℕ). Some (record { start = x; end = y; open_w = 0; close_w = 0 }))
    (moved_before e 0 some)
    (moved_behind e (0 + a) (0 + b) (omega (arith, at, x, wx)) (omega (arith, new_at, x, y, wx, wy))))

body_replaced : (e : Edit) (t w : ℕ → ItemTree) (i : ℕ) (k : TextBlock) (old new : List ℕ) (fs : Frames) → AreReplaced t w i k old new → AllBorders t fs → AllBorders w fs
    → EditIn (FitsAt e k old new) t i 1 [] [] fs → with_inside e (body_of (trees_at t fs)) ≡ body_of (trees_at w fs)
body_replaced e t w i k old new fs r g f d =
    let us : List ItemTree = trees_at t fs in
    let ws : List ItemTree = trees_at w fs in
    let one : 1 ≤ 1 = omega arith in
    let before : IsAhead e 1 [] = ahead e k old new t i 1 [] [] fs r.old_block d in
    let at = before.1 in
    opened e us (blocks_of 1 [] us) before.0
    ∙ ap₂ tree (label_moved e us ws (omega (arith, at)) (moves e t w i k old new r 1 [] [] fs one g d))
    (frames_replaced e t w i k old new r true Page 1 [] [] fs one g f (page_borders t fs) (page_borders w fs) d)

-- ---- the page

page_is : (pages : Pages) (ss rs : List BlockSpot) (behind : List ℕ) (f : Framed ss behind) → AreSpots ss behind → SameRound ss rs → AreTypedOver ss rs
    → page_tree pages (spots_source rs behind) ≡ with_sections (body_of (nodes_over f rs))
page_is pages ss rs behind f h e o =
    ap with_sections (ap (λ x. ungathered x.outer x.items) (over_expanded pages ss rs behind h e o) ∙ over_tree ss rs behind f h e o)

over_borders : (ss rs : List BlockSpot) (behind : List ℕ) (f : Framed ss behind) → SameRound ss rs → AllBorders (tree_by rs) f.frames
over_borders ss rs behind f e = tree_borders rs f.frames f.of_cells (f.in_order ∙ sym (counted_same ss rs e))

-- of two pages that are the same but for their texts, and of these but for one
pub page_replaced : (pages : Pages) (ss qs rs : List BlockSpot) (behind : List ℕ) (f : Framed ss behind) → AreSpots ss behind → SameRound ss qs → AreTypedOver ss qs
    → SameRound ss rs → AreTypedOver ss rs → (e : Edit) (i : ℕ) (k : TextBlock) (old new : List ℕ) → AreReplaced (tree_by qs) (tree_by rs) i k old new
    → EditIn (FitsAt e k old new) (tree_by qs) i 1 [] [] f.frames
    → page_tree pages (spots_source rs behind) ≡ with_inside e (page_tree pages (spots_source qs behind))
page_replaced pages ss qs rs behind f h qe qo re ro e i k old new r d =
    let us : List ItemTree = nodes_over f qs in
    let ts : Trees = blocks_of 1 [] us in
    let before : IsAhead e 1 [] = ahead e k old new (tree_by qs) i 1 [] [] f.frames r.old_block d in
    page_is pages ss rs behind f h re ro
    ∙ ap with_sections (sym (body_replaced e (tree_by qs) (tree_by rs) i k old new f.frames r (over_borders ss qs behind f qe) (over_borders ss rs behind f re) d))
    ∙ sections_moved e (body_label us) ts (opened e us ts before.0) (opened e us (gathered ts) before.0) before.0
    ∙ ap (with_inside e) (sym (page_is pages ss qs behind f h qe qo))
