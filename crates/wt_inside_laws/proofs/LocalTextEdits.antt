-- Text edits are local, of ordinary blocks and beside calls.
use Rattle.std.proofs.Common.{◌≡◌, ◌≤◌, ℕ, Option, None, List, [], length, sym, ap, ◌∙◌, subst}
use Rattle.std.specs.Str.{IsUtf8}
use Rattle.wt_span.specs.declared.limits.TheConstants.{PAGE_BYTES}
use Rattle.wt_span.specs.Items.{Item}
use Rattle.wt_tree.specs.Tree.{Tree}
use Rattle.wt_expand.specs.Work.{Pages}
use Rattle.wt_page_round_trip.specs.PageTree.{page_tree}
use Rattle.wt_slices.specs.BodySlices.{slices}
use Rattle.wt_slices.specs.Changes.{marked}
use Rattle.wt_splice.specs.Splice.{spliced}
use Rattle.wt_selser.proofs.Outside.{nothing_changes}
use Rattle.wt_visible.specs.SameNodes.{same_node}
use Rattle.wt_commands.specs.Answers.{refusal_of_page}
use Rattle.wt_typed_blocks.specs.Edited.{Edits}
use Rattle.wt_text_edit_laws.specs.BlockSpots.{BlockSpot, spots_source}
use Rattle.wt_called_edit_laws.specs.CalledPages.{IsCalledPage}
use Rattle.wt_called_edit_laws.specs.CallingContents.{TakesContentsIn}
use Rattle.wt_called_edit_laws.specs.CallingEdits.{IsCallingPage}
use Rattle.wt_called_edit_laws.specs.ContentsTaken.{TakesContents}
use Rattle.wt_called_edit_laws.specs.Groups.{called_tree}
use Rattle.wt_called_edit_laws.specs.LinedAmong.{spots_of_lines, end_of_lines, IsLinedAmong}
use Rattle.wt_called_edit_laws.specs.LinedCalling.{IsLinedCalling}
use Rattle.wt_called_edit_laws.specs.LocalChange.{ExpandsAlike, IsLocalChange}
use Rattle.wt_called_edit_laws.specs.PlacedLines.{LinedBlock}
use Rattle.wt_called_edit_laws.proofs.Among.CallingLines.{calling_whole, calling_editable}
use Rattle.wt_called_edit_laws.proofs.Among.LinedParts.{lined_whole, lined_editable}
use Rattle.wt_called_edit_laws.proofs.BlocksOutside.{editable_called}
use Rattle.wt_called_edit_laws.proofs.EditFacts.{spots_utf8}
use Rattle.wt_called_edit_laws.proofs.EditableBlocks.{editable_calling}
use Rattle.wt_called_edit_laws.proofs.PageBody.{IsBodyOf, page_body}
use Rattle.wt_called_edit_laws.proofs.SpotSources.{blocks_have}
use Rattle.wt_inside_laws.specs.AsSent.{edits_of, IsSentOn}
use Rattle.wt_inside_laws.specs.BesideEdits.{IsBesideEdit}
use Rattle.wt_inside_laws.specs.LocalTextEdits.{IsLocalTextEdit}
use Rattle.wt_inside_laws.specs.ToldEdits.{IsToldEdit, IsOrdinaryEdit}
use Rattle.wt_inside_laws.proofs.NothingMarked.{ChangesNothing, nothing_done}
use Rattle.wt_inside_laws.proofs.NothingMoved.{still_local, still_alike}
use Rattle.wt_inside_laws.proofs.SectionsAlike.{sections_alike}
use Rattle.wt_inside_laws.proofs.BesideEdits.{BesideSent, beside_sent}
use Rattle.wt_inside_laws.proofs.OrdinaryEdits.{OrdinarySent, ordinary_sent, OrdinaryTold, ordinary_told, by_marked}
use Rattle.wt_inside_laws.proofs.ToldEdits.{CalledSent, called_sent}

-- ---- its sections, too

local_with : (pages : Pages) (page : List ℕ) (new : Tree) → IsUtf8 page → refusal_of_page pages page ≡ None
    → IsSentOn pages page new (edits_of (called_tree pages page) new)
    → IsLocalChange pages page (spliced page (slices same_node (page_tree pages page) new)) (edits_of (called_tree pages page) new)
    → IsLocalTextEdit pages page new
local_with pages page new utf8 unrefused s l = record {
  old = s.old;
  at = s.at;
  sections =
      sections_alike pages page (spliced page (slices same_node (page_tree pages page) new)) (edits_of (called_tree pages page) new) utf8 unrefused l;
  local = l;
}

-- ---- of blocks that hold no call

-- it is local, and the expansion is the same work
record Stays (pages : Pages) (page : List ℕ) (new : Tree) : Type 0 where
  local : IsLocalTextEdit pages page new
  alike : ExpandsAlike pages page (spliced page (slices same_node (page_tree pages page) new))

called_local : (pages : Pages) (ss : List BlockSpot) (behind : List ℕ) (new : Tree) (c : TakesContents pages ss behind) → IsCalledPage pages ss behind
    → IsToldEdit pages (spots_source ss behind) c.paths new → Stays pages (spots_source ss behind) new
called_local pages ss behind new c h e =
    let es : Edits = edits_of (called_tree pages (spots_source ss behind)) new in
    let s : CalledSent pages ss behind c.paths new = called_sent pages ss behind new c h e in
    record {
      local = local_with pages (spots_source ss behind) new (spots_utf8 pages ss behind h) h.unrefused s.sent
          (subst (λ (bs : List ℕ). IsLocalChange pages (spots_source ss behind) bs es) (sym s.same) (c.local es s.edit));
      alike = subst (λ (bs : List ℕ). ExpandsAlike pages (spots_source ss behind) bs) (sym s.same) (c.alike es s.edit);
    }

lined_local : (pages : Pages) (page : List ℕ) (bs : List LinedBlock) (rest : List (List Item)) (new : Tree) → IsLinedAmong pages page bs rest
    → (c : TakesContents pages (spots_of_lines pages page bs) (end_of_lines pages page bs rest)) → IsToldEdit pages page c.paths new
    → Stays pages page new
lined_local pages page bs rest new h c e =
    let ss : List BlockSpot = spots_of_lines pages page bs in
    let behind : List ℕ = end_of_lines pages page bs rest in
    let called : IsCalledPage pages ss behind = editable_called pages ss behind (lined_editable pages page bs rest h) in
    subst (λ (q : List ℕ). IsToldEdit pages q c.paths new → Stays pages q new) (lined_whole pages page bs rest h)
    (λ k. called_local pages ss behind new c called k) e

-- where nothing is marked
nothing_stays : (pages : Pages) (page : List ℕ) (new : Tree) → IsUtf8 page → refusal_of_page pages page ≡ None → IsBodyOf page (called_tree pages page)
    → IsSentOn pages page new (edits_of (called_tree pages page) new) → ChangesNothing pages page new → Stays pages page new
nothing_stays pages page new utf8 unrefused b s n =
    let es : Edits = edits_of (called_tree pages page) new in
    let same : spliced page (slices same_node (page_tree pages page) new) ≡ page = ap (spliced page) n.slices ∙ nothing_changes page in
    record {
      local = local_with pages page new utf8 unrefused s
          (subst (λ (bs : List ℕ). IsLocalChange pages page bs es) (sym same) (still_local pages page es n.none s.outside s.old b.slices));
      alike = subst (λ (bs : List ℕ). ExpandsAlike pages page bs) (sym same) (still_alike pages page);
    }

pub nothing_local : (pages : Pages) (page : List ℕ) (new : Tree) → IsUtf8 page → length page ≤ PAGE_BYTES → refusal_of_page pages page ≡ None
    → IsSentOn pages page new (edits_of (called_tree pages page) new) → marked (page_tree pages page) new ≡ [] → IsLocalTextEdit pages page new
nothing_local pages page new utf8 short unrefused sent none =
    let s : Stays pages page new =
    nothing_stays pages page new utf8 unrefused (page_body pages page utf8 unrefused) sent (nothing_done pages page new utf8 short unrefused sent none) in
    s.local

ordinary_stays : (pages : Pages) (page input : List ℕ) (new : Tree) (u : Option ℕ) → IsOrdinaryEdit pages page input new u → Stays pages page new
ordinary_stays pages page input new u h =
    by_marked (marked (page_tree pages page) new)
    (λ none.
    let e : OrdinarySent pages page new = ordinary_sent pages page input new u h in
    nothing_stays pages page new h.utf8 h.unrefused (page_body pages page h.utf8 h.unrefused) e.sent
    (nothing_done pages page new h.utf8 h.short h.unrefused e.sent none))
    (λ some.
    let o : OrdinaryTold pages page new = ordinary_told pages page input new u h some in
    lined_local pages page o.bs o.rest new o.lined o.taken o.edit)

pub ordinary_local : (pages : Pages) (page input : List ℕ) (new : Tree) (u : Option ℕ) → IsOrdinaryEdit pages page input new u → IsLocalTextEdit pages page new
ordinary_local pages page input new u h = let s : Stays pages page new = ordinary_stays pages page input new u h in s.local

pub ordinary_alike : (pages : Pages) (page input : List ℕ) (new : Tree) (u : Option ℕ) → IsOrdinaryEdit pages page input new u
    → ExpandsAlike pages page (spliced page (slices same_node (page_tree pages page) new))
ordinary_alike pages page input new u h = let s : Stays pages page new = ordinary_stays pages page input new u h in s.alike

-- ---- of blocks that may hold calls

beside_local : (pages : Pages) (ss : List BlockSpot) (behind : List ℕ) (new : Tree) (c : TakesContentsIn pages ss behind) → IsCallingPage pages ss behind
    → IsUtf8 (spots_source ss behind) → refusal_of_page pages (spots_source ss behind) ≡ None → IsBesideEdit pages (spots_source ss behind) c.paths new
    → IsLocalTextEdit pages (spots_source ss behind) new
beside_local pages ss behind new c h utf8 unrefused e =
    let es : Edits = edits_of (called_tree pages (spots_source ss behind)) new in
    let s : BesideSent pages ss behind c.paths new =
    beside_sent pages ss behind new c utf8 unrefused (blocks_have pages ss behind h.outside h.unrefused) h e in
    local_with pages (spots_source ss behind) new utf8 unrefused s.sent
    (subst (λ (bs : List ℕ). IsLocalChange pages (spots_source ss behind) bs es) (sym s.same) (c.local es s.edit))

pub calling_local : (pages : Pages) (page : List ℕ) (bs : List LinedBlock) (rest : List (List Item)) (new : Tree) → IsLinedCalling pages page bs rest
    → (c : TakesContentsIn pages (spots_of_lines pages page bs) (end_of_lines pages page bs rest)) → IsBesideEdit pages page c.paths new
    → IsLocalTextEdit pages page new
calling_local pages page bs rest new h c e =
    let ss : List BlockSpot = spots_of_lines pages page bs in
    let behind : List ℕ = end_of_lines pages page bs rest in
    let there : IsCallingPage pages ss behind = editable_calling pages ss behind (calling_editable pages page bs rest h) in
    subst (λ (q : List ℕ). IsUtf8 q → refusal_of_page pages q ≡ None → IsBesideEdit pages q c.paths new → IsLocalTextEdit pages q new)
    (calling_whole pages page bs rest h) (λ u r k. beside_local pages ss behind new c there u r k) h.utf8 h.unrefused e
