-- In a page whose blocks hold calls no block whose content is edited is tangled.
use Rattle.std.proofs.Common.{◌≡◌, ℕ, Option, List, [], length, refl, sym, ap, ◌∙◌, subst}
use Rattle.wt_expand.specs.PageCalls.{expanded_page}
use Rattle.wt_expand.specs.Work.{Pages}
use Rattle.wt_tree.specs.Tree.{Tree, label}
use Rattle.wt_annotated.specs.Numbering.{next_after}
use Rattle.wt_checks.specs.Kept.{children}
use Rattle.wt_part_laws.specs.Frames.{content}
use Rattle.wt_part_laws.specs.Placeless.{all_placeless}
use Rattle.wt_typed_blocks.specs.Edited.{Edited, Edits, page_nodes}
use Rattle.wt_typed_blocks.specs.EditedPage.{LieAt, AreApart}
use Rattle.wt_part_laws.specs.TreeFrames.{all_filled, spots}
use Rattle.wt_text_edit_laws.specs.BlockSpots.{BlockSpot, spots_source}
use Rattle.wt_called_edit_laws.specs.CalledBlocks.{tree_by}
use Rattle.wt_called_edit_laws.specs.CalledTexts.{spots_tree}
use Rattle.wt_called_edit_laws.specs.CallingEdits.{IsCallingPage}
use Rattle.wt_called_edit_laws.specs.CallingGroups.{block_with_groups, CallingNodesStay}
use Rattle.wt_called_edit_laws.specs.Sends.{AllSend}
use Rattle.wt_called_edit_laws.specs.Untangled.{AreUntangledFrom}
use Rattle.wt_called_edit_laws.proofs.CalledUtf8.{called_utf8}
use Rattle.wt_called_edit_laws.proofs.CallingGaps.{calling_gaps}
use Rattle.wt_called_edit_laws.proofs.CallingGroups.{edited_self}
use Rattle.wt_called_edit_laws.proofs.FreeBlocks.{calls_free}
use Rattle.wt_called_edit_laws.proofs.NodeGaps.{HaveSources, own_have, numbers_so}
use Rattle.wt_called_edit_laws.proofs.PageBody.{page_body}
use Rattle.wt_called_edit_laws.proofs.PagesSettled.{called_settled}
use Rattle.wt_called_edit_laws.proofs.SpotSources.{blocks_have}
use Rattle.wt_called_edit_laws.proofs.TextsUntangled.{edit_untangled, body_settled}
use Rattle.wt_called_edit_laws.proofs.Untangled.{called_clear, untangled_from}
use Rattle.wt_called_edit_laws.proofs.Whole.Blocks.{blocks_whole}

pub calling_untangled : (pages : Pages) (ss : List BlockSpot) (behind : List ℕ) → IsCallingPage pages ss behind
    → AreUntangledFrom (expanded_page pages (spots_source ss behind)) (spots_source ss behind) (block_with_groups pages ss behind) 0 ss
calling_untangled pages ss behind h =
    let page : List ℕ = spots_source ss behind in
    untangled_from (expanded_page pages page) page [] (block_with_groups pages ss behind) ss behind 0 refl refl
    (calls_free pages ss behind h.outside.blocks.called h.texts) (called_clear pages ss behind h.outside.blocks.called)
    (blocks_whole pages ss behind h.outside h.unrefused h.whole)

pub calling_apart : (pages : Pages) (ss : List BlockSpot) (behind : List ℕ) (f : CallingNodesStay pages ss behind) (o : ℕ → Option Edited) (es : Edits)
    → IsCallingPage pages ss behind → AllSend o f.nodes es → page_nodes es ≡ children (spots_tree pages ss behind) → LieAt 0 es
    → AreApart (expanded_page pages (spots_source ss behind)) (spots_source ss behind) es
calling_apart pages ss behind f o es h sends same lie =
    let page : List ℕ = spots_source ss behind in
    let t : Tree = spots_tree pages ss behind in
    let b : ℕ → Tree = block_with_groups pages ss behind in
    let body = page_body pages page (called_utf8 pages ss behind h.outside.blocks.called) h.unrefused in
    let stay : all_placeless (children t) ≡ all_filled b f.nodes = f.stay ss (edited_self pages ss) h.outside.hold in
    let sources : HaveSources b (tree_by ss) (spots f.nodes) =
    subst (HaveSources b (tree_by ss)) (sym f.in_order) (own_have b ss (blocks_have pages ss behind h.outside h.unrefused)) in
    edit_untangled (expanded_page pages page) page o b ss content f.nodes es (next_after (label t).kind 1) sources f.inner_nodes f.holders
    (calling_gaps pages ss behind f h) (numbers_so ss f.nodes f.in_order) (calling_untangled pages ss behind h) sends (ap all_placeless same ∙ stay)
    (same ∙ body_settled t (all_filled b f.nodes) body.kind (called_settled pages page) (ap length body.opening) stay) lie
