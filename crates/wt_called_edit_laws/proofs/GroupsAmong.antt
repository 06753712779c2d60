-- Where texts are typed in blocks among calls that are in no group, the groups of the page and its other nodes stay.
use Rattle.std.proofs.Common.{inl, ℕ, List, [], ◌∷◌, refl, sym, ap, ◌∙◌, subst}
use Rattle.wt_span.specs.Origins.{OuterCall}
use Rattle.wt_expand.specs.Work.{Pages}
use Rattle.wt_expand.specs.PageCalls.{expanded_page}
use Rattle.wt_annotated.specs.Annotated.{annotated}
use Rattle.wt_annotated.specs.GroupData.{group_data}
use Rattle.wt_part_laws.specs.Placeless.{placeless}
use Rattle.wt_part_laws.specs.Frames.{Frames, all_places}
use Rattle.wt_text_edit_laws.specs.BlockSpots.{BlockSpot, spots_source, AreContents}
use Rattle.wt_called_edit_laws.specs.Parts.{called_outers}
use Rattle.wt_called_edit_laws.proofs.Parts.Retyped.{is_by_parts, same_round, blocks_over, typed_again}
use Rattle.wt_called_edit_laws.specs.Retyped.{AreRetyped}
use Rattle.wt_part_laws.specs.MovedCalls.{AreMoved}
use Rattle.wt_part_laws.specs.Rounded.{HaveSameData, AreOwn, GroupsStay}
use Rattle.wt_part_laws.proofs.GroupsStay.{groups_stay}
use Rattle.wt_part_laws.proofs.MovedData.{moved_data}
use Rattle.wt_called_edit_laws.specs.CalledBlocks.{AreAmongCalls, tree_by}
use Rattle.wt_called_edit_laws.proofs.Cells.CalledFrames.{among_contents, calm_over}
use Rattle.wt_called_edit_laws.proofs.Cells.SpotTrees.{counted_same}
use Rattle.wt_called_edit_laws.specs.Groups.{AreOutsideGroups, GroupsStayAmong}
use Rattle.wt_called_edit_laws.proofs.MovedOuters.{outers_moved}
use Rattle.wt_called_edit_laws.proofs.OwnBlocks.{counted_own}

-- the calls of the page with other texts are the same but for where they are
pub calls_same : (pages : Pages) (ss rs : List BlockSpot) (behind : List ℕ) → AreAmongCalls pages ss behind → AreRetyped ss rs
    → HaveSameData (expanded_page pages (spots_source ss behind)).outer (expanded_page pages (spots_source rs behind)).outer
calls_same pages ss rs behind h t =
    let calls : List OuterCall = (expanded_page pages (spots_source ss behind)).outer in
    let others : List OuterCall = (expanded_page pages (spots_source rs behind)).outer in
    let again = typed_again pages ss rs behind h.called t in
    let was = is_by_parts pages ss behind h.called in
    let contents : AreContents ss = among_contents pages ss behind h in
    let now = is_by_parts pages rs behind again.called in
    let moved : AreMoved calls others =
    subst (λ cs. AreMoved cs others) (sym was.outers)
    (subst (AreMoved (called_outers pages ss behind)) (sym now.outers) (outers_moved pages ss rs behind (same_round ss rs t) contents h.calm (blocks_over ss rs t contents) (calm_over ss rs t h.calm))) in
    moved_data calls others moved

-- and its blocks have items of the page alone
pub own_among : (pages : Pages) (ss rs : List BlockSpot) (behind : List ℕ) (h : AreOutsideGroups pages ss behind) → AreRetyped ss rs
    → AreOwn (tree_by rs) (all_places h.stand.frames)
own_among pages ss rs behind h t =
    subst (AreOwn (tree_by rs)) (counted_same ss rs (same_round ss rs t) ∙ sym h.stand.in_order)
    (counted_own rs (blocks_over ss rs t (among_contents pages ss behind h.among)))

-- each text is the same
pub retyped_self : (ss : List BlockSpot) → AreRetyped ss ss
retyped_self [] = tt
retyped_self (s ∷ ss) = (refl, refl, inl refl, retyped_self ss)

pub groups_among : (pages : Pages) (ss : List BlockSpot) (behind : List ℕ) → AreOutsideGroups pages ss behind → GroupsStayAmong pages ss behind
groups_among pages ss behind h =
    let fs : Frames = h.stand.frames in
    let calls : List OuterCall = (expanded_page pages (spots_source ss behind)).outer in
    let g : GroupsStay calls fs =
    groups_stay calls fs (tree_by ss) h.stand.of_cells (own_among pages ss ss behind h (retyped_self ss)) h.clean in
    record {
      nodes = g.nodes;
      in_order = g.in_order ∙ h.stand.in_order;
      stay = λ rs t.
          let others : List OuterCall = (expanded_page pages (spots_source rs behind)).outer in
          ap (λ m. placeless (annotated others (group_data others) m)) (h.stand.means rs t)
          ∙ g.stay others (tree_by rs) (calls_same pages ss rs behind h.among t) (own_among pages ss rs behind h t);
    }
