-- What a page has before each of its blocks that hold calls, among its nodes: its source before this block.
use Rattle.std.proofs.Common.{◌≡◌, inl, inr, ℕ, List, [], ◌∷◌, ◌++◌, length, refl, sym, ap, ◌∙◌, subst}
use Rattle.std.proofs.lemmas.List.{append_cancel_left}
use Rattle.wt_tree.specs.Source.{flat_of_all}
use Rattle.wt_checks.specs.Kept.{children}
use Rattle.wt_expand.specs.Work.{Pages}
use Rattle.wt_tree.specs.Tree.{Tree}
use Rattle.wt_part_laws.specs.TreeFrames.{all_filled, spots}
use Rattle.wt_text_edit_laws.specs.BlockSpots.{BlockSpot, spots_source}
use Rattle.wt_text_edit_laws.specs.TextBlocks.{TextBlock, source_of}
use Rattle.wt_called_edit_laws.specs.CalledBlocks.{tree_by, counted}
use Rattle.wt_called_edit_laws.specs.CalledTexts.{spots_tree}
use Rattle.wt_called_edit_laws.specs.CallingBlocks.{AreEdited}
use Rattle.wt_called_edit_laws.specs.CallingEdits.{TakesLetters, AllTakeLetters, IsCallingPage}
use Rattle.wt_called_edit_laws.specs.CallingGroups.{block_with_groups, CallingNodesStay}
use Rattle.wt_called_edit_laws.specs.WrittenAnew.{EachHolds}
use Rattle.wt_called_edit_laws.proofs.CallingGroups.{calling_outside, edited_self, edited_round}
use Rattle.wt_called_edit_laws.proofs.CalledUtf8.{called_utf8}
use Rattle.wt_called_edit_laws.proofs.Cells.CallingFrames.{edited_anew}
use Rattle.wt_called_edit_laws.proofs.Cells.PlaceGaps.{Gaps, last_gap, then_gap, fill, own_sources, same_front, AreAsMany, AreSame, many_by, count_counted}
use Rattle.wt_called_edit_laws.proofs.Cells.SpotTrees.{counted_same}
use Rattle.wt_called_edit_laws.proofs.NodeGaps.{page_gaps, numbers_so, filled_page, own_have, HaveSources}
use Rattle.wt_called_edit_laws.proofs.PageBody.{page_body}
use Rattle.wt_called_edit_laws.proofs.Parts.Retyped.{expanded_again}
use Rattle.wt_called_edit_laws.proofs.SpotSources.{blocks_have}
use Rattle.wt_called_edit_laws.proofs.TextsMake.{all_flat_same}
use Rattle.wt_called_edit_laws.proofs.Written.AllHeld.{all_hold}

-- ---- by two contents of each

-- the page with any new contents beside the calls has these gaps round them
abbrev pub FillsEdited : Pages → Gaps → List BlockSpot → List ℕ → Type 0
FillsEdited pages g ss behind = (rs : List BlockSpot) → AreEdited pages ss rs → EachHolds pages rs → fill (own_sources rs) g ≡ spots_source rs behind

abbrev with_source : BlockSpot → List ℕ → BlockSpot
with_source s q = record s { text = q }

pub gaps_by_letters : (pages : Pages) (g : Gaps) (ss : List BlockSpot) (behind : List ℕ) → AreAsMany g ss → EachHolds pages ss → AllTakeLetters pages ss
    → FillsEdited pages g ss behind → AreSame g ss
gaps_by_letters pages (last_gap xs) [] behind m o l f = tt
gaps_by_letters pages (last_gap xs) (s ∷ ss) behind m o l f = absurd m
gaps_by_letters pages (then_gap xs i g) [] behind m o l f = absurd m
gaps_by_letters pages (then_gap xs i g) (s ∷ ss) behind m o l f =
    let k : TextBlock = s.block in
    let h : TakesLetters pages k s.text = l.0 in
    let first : xs ≡ s.before =
    same_front k h.rest xs s.before (fill (own_sources ss) g) (spots_source ss behind)
    (f (with_source s (97 ∷ h.rest) ∷ ss) (refl, refl, inr h.one, edited_self pages ss) (h.one_holds, o.1))
    (f (with_source s (98 ∷ h.rest) ∷ ss) (refl, refl, inr h.other, edited_self pages ss) (h.other_holds, o.1)) in
    let rest : FillsEdited pages g ss behind = λ rs e u.
    let own : List ℕ = source_of k s.text in
    append_cancel_left own (fill (own_sources rs) g) (spots_source rs behind)
    (append_cancel_left s.before (own ++ fill (own_sources rs) g) (own ++ spots_source rs behind)
    (ap (λ ys. ys ++ (own ++ fill (own_sources rs) g)) (sym first) ∙ f (s ∷ rs) (refl, refl, inl refl, e) (o.0, u))) in
    (first, gaps_by_letters pages g ss behind m o.1 l.1 rest)

-- ---- of a page

-- with such contents its nodes have the page's source
pub calling_source : (pages : Pages) (ss rs : List BlockSpot) (behind : List ℕ) (f : CallingNodesStay pages ss behind) → IsCallingPage pages ss behind
    → AreEdited pages ss rs → EachHolds pages rs → flat_of_all (all_filled (block_with_groups pages rs behind) f.nodes) ≡ spots_source rs behind
calling_source pages ss rs behind f h t o =
    let expanded = expanded_again pages ss rs behind h.outside.blocks.called (edited_anew pages ss rs t) in
    sym (ap flat_of_all (f.stay rs t (all_hold pages rs o)))
    ∙ all_flat_same (children (spots_tree pages rs behind))
    ∙ (page_body pages (spots_source rs behind) (called_utf8 pages rs behind expanded.called) (expanded.unrefused h.unrefused)).source

calling_fills : (pages : Pages) (ss : List BlockSpot) (behind : List ℕ) (f : CallingNodesStay pages ss behind) → IsCallingPage pages ss behind
    → FillsEdited pages (page_gaps f.nodes) ss behind
calling_fills pages ss behind f h = λ rs t o.
    let again = calling_outside pages ss rs behind h.outside t (all_hold pages rs o) in
    let expanded = expanded_again pages ss rs behind h.outside.blocks.called (edited_anew pages ss rs t) in
    let b : ℕ → Tree = block_with_groups pages rs behind in
    let in_order : spots f.nodes ≡ counted rs = f.in_order ∙ sym (counted_same ss rs (edited_round pages ss rs t)) in
    let sources : HaveSources b (tree_by rs) (spots f.nodes) =
    subst (HaveSources b (tree_by rs)) (sym in_order) (own_have b rs (blocks_have pages rs behind again (expanded.unrefused h.unrefused))) in
    filled_page b rs behind f.nodes sources f.inner_nodes in_order (calling_source pages ss rs behind f h t o)

pub calling_gaps : (pages : Pages) (ss : List BlockSpot) (behind : List ℕ) (f : CallingNodesStay pages ss behind) → IsCallingPage pages ss behind
    → AreSame (page_gaps f.nodes) ss
calling_gaps pages ss behind f h =
    gaps_by_letters pages (page_gaps f.nodes) ss behind (many_by (page_gaps f.nodes) ss (ap length (numbers_so ss f.nodes f.in_order) ∙ count_counted ss))
    h.hold h.letters (calling_fills pages ss behind f h)
