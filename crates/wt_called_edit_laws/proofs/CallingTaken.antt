-- Contents are edited in paragraphs and headings that may hold calls: by what is sent the new page has these, and shows what was sent.
use Rattle.std.proofs.Common.{◌≡◌, ℕ, ◌-◌, None, Option, List, length, map, refl, sym, ap, ◌∙◌, subst}
use Rattle.std.specs.List.{AllByRecursion}
use Rattle.wt_tree.specs.Tiling.{TiledFrom}
use Rattle.wt_tree.specs.Tree.{Tree, tree, Trees, label}
use Rattle.wt_annotated.specs.Reached.{reached_in_all}
use Rattle.wt_annotated.specs.Slices.{IsSlice}
use Rattle.wt_expand.specs.Expansion.{page_work}
use Rattle.wt_expand.specs.PageCalls.{expanded_page}
use Rattle.wt_expand.specs.Work.{Pages, first_refusal}
use Rattle.wt_part_laws.specs.Placeless.{placeless, all_placeless}
use Rattle.wt_part_laws.specs.TreeFrames.{all_filled}
use Rattle.wt_visible.specs.SameNodes.{same_node}
use Rattle.wt_typed_blocks.specs.Edited.{Edited, Edits, page_nodes, AreOutside}
use Rattle.wt_typed_blocks.specs.EditedPage.{AreTaken, LieAt, AreApart}
use Rattle.wt_typed_blocks.specs.EditedUnmarked.{AreTold}
use Rattle.wt_text_edit_laws.specs.BlockSpots.{BlockSpot, spots_source}
use Rattle.wt_called_edit_laws.specs.CalledBlocks.{counted}
use Rattle.wt_called_edit_laws.specs.CalledTexts.{spots_tree}
use Rattle.wt_called_edit_laws.specs.CallingBlocks.{AreEdited}
use Rattle.wt_called_edit_laws.specs.CallingContents.{IsContentEditIn, IsUnmarkedContentEditIn, TakesContentsIn}
use Rattle.wt_called_edit_laws.specs.CallingEdits.{IsCallingPage, MakesPage}
use Rattle.wt_called_edit_laws.specs.CallingGroups.{AreCallingOutside, block_with_groups, CallingNodesStay}
use Rattle.wt_called_edit_laws.specs.EditsAt.{edited_by, with_contents}
use Rattle.wt_called_edit_laws.specs.LocalChange.{IsLocalChange}
use Rattle.wt_called_edit_laws.specs.PathsTo.{paths_to, AreEditedThere}
use Rattle.wt_called_edit_laws.specs.Sends.{AllSend}
use Rattle.wt_called_edit_laws.specs.SettledAt.{AllSettled}
use Rattle.wt_called_edit_laws.specs.TreeEdits.{IsNumberedBody}
use Rattle.wt_called_edit_laws.specs.WrittenAnew.{EachHolds}
use Rattle.wt_called_edit_laws.proofs.CalledUtf8.{called_utf8}
use Rattle.wt_called_edit_laws.proofs.CallingApart.{calling_apart}
use Rattle.wt_called_edit_laws.proofs.CallingChosen.{own_contents}
use Rattle.wt_called_edit_laws.proofs.CallingGroups.{calling_nodes, calling_outside, edited_self}
use Rattle.wt_called_edit_laws.proofs.CallingMade.{AreMadeIn, all_made, all_edited, all_held, all_take, none_text, all_whole, all_make, all_stay, all_inline, all_taken}
use Rattle.wt_called_edit_laws.proofs.CallingPages.{calling_again}
use Rattle.wt_called_edit_laws.proofs.CallingSent.{page_made}
use Rattle.wt_called_edit_laws.proofs.Cells.CallingFrames.{edited_anew}
use Rattle.wt_called_edit_laws.proofs.EditTaken.{IsExpandable, MakesFrom, edit_done, edit_spliced, unmarked_done}
use Rattle.wt_called_edit_laws.proofs.HoldersSent.{blocks_free}
use Rattle.wt_called_edit_laws.proofs.Leads.{edit_at}
use Rattle.wt_called_edit_laws.proofs.NodesTold.{found_apart}
use Rattle.wt_called_edit_laws.proofs.LocalCallingEdits.{calling_local}
use Rattle.wt_called_edit_laws.proofs.OthersStay.{others_stay}
use Rattle.wt_called_edit_laws.proofs.PageBody.{IsBodyOf, page_body}
use Rattle.wt_called_edit_laws.proofs.PagesSettled.{called_settled}
use Rattle.wt_called_edit_laws.proofs.Parts.Retyped.{expanded_again}
use Rattle.wt_called_edit_laws.proofs.PathsSend.{paths_send}
use Rattle.wt_called_edit_laws.proofs.SettledAt.{tree_settles}
use Rattle.wt_called_edit_laws.proofs.SettledEdits.{AreOfBlocks, all_there, edited_there, have_kinds}
use Rattle.wt_called_edit_laws.proofs.SpotSources.{blocks_have}
use Rattle.wt_called_edit_laws.proofs.TilesStand.{blocks_stand}
use Rattle.wt_called_edit_laws.proofs.Written.AllHeld.{all_hold}

-- ---- the page

calling_expandable : (pages : Pages) (ss : List BlockSpot) (behind : List ℕ) → IsCallingPage pages ss behind → IsExpandable pages (spots_source ss behind)
calling_expandable pages ss behind h = record { utf8 = called_utf8 pages ss behind h.outside.blocks.called; unrefused = h.unrefused }

calling_body : (pages : Pages) (ss : List BlockSpot) (behind : List ℕ) → IsCallingPage pages ss behind → IsBodyOf (spots_source ss behind) (spots_tree pages ss behind)
calling_body pages ss behind h = page_body pages (spots_source ss behind) (called_utf8 pages ss behind h.outside.blocks.called) h.unrefused

numbered_body : (pages : Pages) (ss : List BlockSpot) (behind : List ℕ) → IsCallingPage pages ss behind → IsNumberedBody (spots_tree pages ss behind)
numbered_body pages ss behind h = let b = calling_body pages ss behind h in record { body = b.kind; numbered = b.numbered; alone = b.unframed }

same_kind : (t : Tree) → (label (placeless t)).kind ≡ (label t).kind
same_kind (tree l ts) = refl

pub blocks_settle : (pages : Pages) (ss : List BlockSpot) (behind : List ℕ) (f : CallingNodesStay pages ss behind) → IsCallingPage pages ss behind
    → AllSettled (block_with_groups pages ss behind) (counted ss) (paths_to f.nodes) (spots_tree pages ss behind)
blocks_settle pages ss behind f h =
    let t : Tree = spots_tree pages ss behind in
    let b : ℕ → Tree = block_with_groups pages ss behind in
    let body = calling_body pages ss behind h in
    subst (λ (ns : List ℕ). AllSettled b ns (paths_to f.nodes) t) f.in_order
    (tree_settles b f.nodes t f.holders (same_kind t ∙ body.kind) (called_settled pages (spots_source ss behind))
    (f.stay ss (edited_self pages ss) h.outside.hold))

-- ---- the edit

-- the contents that are sent, and the blocks with them
abbrev pub contents_by : {pages : Pages} {ss : List BlockSpot} {behind : List ℕ} → CallingNodesStay pages ss behind → Edits → List (Option Edited)
contents_by f es = map (edited_by es) (paths_to f.nodes)

abbrev pub new_blocks : {pages : Pages} {ss : List BlockSpot} {behind : List ℕ} → CallingNodesStay pages ss behind → Edits → List BlockSpot
new_blocks {ss = ss} f es = with_contents ss (map (edited_by es) (paths_to f.nodes))

-- What holds of what is sent.
pub record AreWellSentIn (pages : Pages) (ss : List BlockSpot) (behind : List ℕ) (f : CallingNodesStay pages ss behind) (es : Edits) : Type 0 where
  pub made : AreMadeIn pages ss (contents_by f es)
  pub edited : AreEdited pages ss (new_blocks f es)
  pub held : EachHolds pages (new_blocks f es)
  pub sends : AllSend (edit_at (contents_by f es)) f.nodes es
  pub old : all_placeless (page_nodes es) ≡ all_filled (block_with_groups pages ss behind) f.nodes
  pub outside : AreOutside es
  pub taken : AreTaken same_node es
  pub lie : LieAt 0 es
  pub apart : AreApart (expanded_page pages (spots_source ss behind)) (spots_source ss behind) es
  pub page : MakesPage pages (new_blocks f es) behind es

-- with new contents that hold their calls the page is text, and isn't refused
new_outside : (pages : Pages) (ss rs : List BlockSpot) (behind : List ℕ) → IsCallingPage pages ss behind → AreEdited pages ss rs → EachHolds pages rs
    → AreCallingOutside pages rs behind
new_outside pages ss rs behind h t held = calling_outside pages ss rs behind h.outside t (all_hold pages rs held)

new_unrefused : (pages : Pages) (ss rs : List BlockSpot) (behind : List ℕ) → IsCallingPage pages ss behind → AreEdited pages ss rs
    → first_refusal pages (spots_source rs behind) (page_work pages (spots_source rs behind)) ≡ None
new_unrefused pages ss rs behind h t =
    let again = expanded_again pages ss rs behind h.outside.blocks.called (edited_anew pages ss rs t) in again.unrefused h.unrefused

new_expandable : (pages : Pages) (ss rs : List BlockSpot) (behind : List ℕ) → IsCallingPage pages ss behind → AreEdited pages ss rs
    → IsExpandable pages (spots_source rs behind)
new_expandable pages ss rs behind h t =
    let again = expanded_again pages ss rs behind h.outside.blocks.called (edited_anew pages ss rs t) in
    record { utf8 = called_utf8 pages rs behind again.called; unrefused = new_unrefused pages ss rs behind h t }

well_sent : (pages : Pages) (ss : List BlockSpot) (behind : List ℕ) (f : CallingNodesStay pages ss behind) (es : Edits) → IsCallingPage pages ss behind
    → IsContentEditIn pages (spots_tree pages ss behind) ss (paths_to f.nodes) es → AreWellSentIn pages ss behind f es
well_sent pages ss behind f es h e =
    let page : List ℕ = spots_source ss behind in
    let t : Tree = spots_tree pages ss behind in
    let b : ℕ → Tree = block_with_groups pages ss behind in
    let os : List (Option Edited) = map (edited_by es) (paths_to f.nodes) in
    let rs : List BlockSpot = with_contents ss os in
    let body = calling_body pages ss behind h in
    let stand : AllSettled b (counted ss) (paths_to f.nodes) t = blocks_settle pages ss behind f h in
    let of_blocks : AreOfBlocks b ss os = all_there b ss (paths_to f.nodes) t es stand e.old in
    let made : AreMadeIn pages ss os = all_made pages (expanded_page pages page).outer 0 ss os of_blocks e.fit in
    let edited : AreEdited pages ss rs = all_edited pages ss os made in
    let held : EachHolds pages rs = all_held pages ss os made h.hold in
    let old : all_placeless (page_nodes es) ≡ all_filled b f.nodes =
    ap all_placeless e.old ∙ f.stay ss (edited_self pages ss) h.outside.hold in
    let sends : AllSend (edit_at os) f.nodes es =
    paths_send f.nodes (edit_at os) b es old e.edits
    (subst (λ (ns : List ℕ). AreEditedThere (edit_at os) es ns (paths_to f.nodes)) (sym f.in_order) (edited_there b ss (paths_to f.nodes) es t stand)) in
    let free = blocks_free f.nodes (edit_at os) b es f.holders sends old in
    let lie : LieAt 0 es =
    blocks_stand page 0 (length page - 0) es free.0 (subst (λ (us : Trees). TiledFrom us 0 (length page - 0)) (sym e.old) body.tiled)
    (subst (λ (us : Trees). AllByRecursion (IsSlice page) (reached_in_all us)) (sym e.old) body.slices) in
    let outside : AreCallingOutside pages rs behind = new_outside pages ss rs behind h edited held in
    let sources = blocks_have pages rs behind outside (new_unrefused pages ss rs behind h edited) in
    record {
      made = made;
      edited = edited;
      held = held;
      sends = sends;
      old = old;
      outside = free.1;
      taken = all_taken pages ss os f.nodes es made sends;
      lie = lie;
      apart = calling_apart pages ss behind f (edit_at os) es h sends e.old lie;
      page = page_made pages ss rs behind f (edit_at os) es h edited held
          (record {
            sends = sends;
            old = old;
            makes = all_make pages (expanded_page pages (spots_source rs behind)).outer 0 ss os made sources;
            stay = all_stay pages ss os made;
          });
    }

makes_from : (pages : Pages) (ss : List BlockSpot) (behind : List ℕ) (f : CallingNodesStay pages ss behind) (es : Edits) → IsCallingPage pages ss behind
    → IsContentEditIn pages (spots_tree pages ss behind) ss (paths_to f.nodes) es
    → MakesFrom pages (spots_source ss behind) (spots_source (new_blocks f es) behind) es
makes_from pages ss behind f es h e =
    let m = well_sent pages ss behind f es h e in
    record {
      was = calling_expandable pages ss behind h;
      now = new_expandable pages ss (new_blocks f es) behind h m.edited;
      old = e.old;
      sent = e.sent;
      outside = m.outside;
      taken = m.taken;
      lie = m.lie;
      apart = m.apart;
      source = m.page.source;
      shows = m.page.shows;
    }

told : (pages : Pages) (ss : List BlockSpot) (behind : List ℕ) (f : CallingNodesStay pages ss behind) (es : Edits) → IsCallingPage pages ss behind
    → IsUnmarkedContentEditIn pages (spots_tree pages ss behind) ss (paths_to f.nodes) es → AreTold es
told pages ss behind f es h e =
    let m = well_sent pages ss behind f es h e.edit in
    found_apart (spots_tree pages ss behind) f.nodes (edit_at (contents_by f es)) (block_with_groups pages ss behind) es (numbered_body pages ss behind h) f.holders
    m.sends e.edit.old m.old (all_inline pages ss (contents_by f es) m.made) e.own

again : (pages : Pages) (ss : List BlockSpot) (behind : List ℕ) (f : CallingNodesStay pages ss behind) (es : Edits) → IsCallingPage pages ss behind
    → IsContentEditIn pages (spots_tree pages ss behind) ss (paths_to f.nodes) es → IsCallingPage pages (new_blocks f es) behind
again pages ss behind f es h e =
    let m = well_sent pages ss behind f es h e in
    let os : List (Option Edited) = contents_by f es in
    calling_again pages ss (new_blocks f es) behind h m.edited m.held (all_take pages ss os m.made h.letters) (none_text pages ss os m.made h.texts)
    (all_whole pages ss os m.made h.whole)

local_so : (pages : Pages) (ss : List BlockSpot) (behind : List ℕ) (f : CallingNodesStay pages ss behind) (es : Edits) → IsCallingPage pages ss behind
    → IsContentEditIn pages (spots_tree pages ss behind) ss (paths_to f.nodes) es
    → IsLocalChange pages (spots_source ss behind) (spots_source (new_blocks f es) behind) es
local_so pages ss behind f es h e =
    let m = well_sent pages ss behind f es h e in
    let rs : List BlockSpot = new_blocks f es in
    let now = new_expandable pages ss rs behind h m.edited in
    calling_local pages ss rs behind f (edit_at (contents_by f es)) es h m.edited m.held m.sends (all_stay pages ss (contents_by f es) m.made)
    (calling_body pages ss behind h) (page_body pages (spots_source rs behind) now.utf8 now.unrefused)

-- ---- they are taken

pub contents_taken : (pages : Pages) (ss : List BlockSpot) (behind : List ℕ) → IsCallingPage pages ss behind → TakesContentsIn pages ss behind
contents_taken pages ss behind h =
    let f : CallingNodesStay pages ss behind = calling_nodes pages ss behind h.outside in
    let page : List ℕ = spots_source ss behind in
    let t : Tree = spots_tree pages ss behind in
    let stand = blocks_settle pages ss behind f h in
    record {
      paths = paths_to f.nodes;
      stand = stand;
      edits = own_contents pages t ss f.nodes (block_with_groups pages ss behind) (numbered_body pages ss behind h)
          (have_kinds (expanded_page pages page).outer pages 0 ss) stand;
      takes = λ b es e le. edit_done pages page (spots_source (new_blocks f es) behind) es b (makes_from pages ss behind f es h e) le;
      makes = λ b es e. edit_spliced pages page (spots_source (new_blocks f es) behind) es b (makes_from pages ss behind f es h e);
      unmarked = λ stands input b unsourced es e found short le small is.
          unmarked_done pages page (spots_source (new_blocks f es) behind) es b stands input unsourced (makes_from pages ss behind f es h e.edit)
          (told pages ss behind f es h e) found short le small is;
      others = λ es e. let m = well_sent pages ss behind f es h e in others_stay pages ss (new_blocks f es) behind h m.edited m.held;
      again = λ es e. again pages ss behind f es h e;
      local = λ es e. local_so pages ss behind f es h e;
    }

pub taken_paths : (pages : Pages) (ss : List BlockSpot) (behind : List ℕ) (h : IsCallingPage pages ss behind)
    → (contents_taken pages ss behind h).paths ≡ paths_to (calling_nodes pages ss behind h.outside).nodes
unfolding contents_taken
taken_paths pages ss behind h = refl
