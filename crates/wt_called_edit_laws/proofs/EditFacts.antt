-- What holds of an edit of contents at the paths of a page's places: by what is sent the new page has these contents, and shows what was sent.
use Rattle.std.proofs.Common.{◌≡◌, inl, inr, ℕ, zero, suc, ◌-◌, Option, List, [], ◌∷◌, length, map, refl, sym, ap, ◌∙◌, subst}
use Rattle.std.specs.List.{AllByRecursion}
use Rattle.std.specs.Str.{IsUtf8}
use Rattle.wt_devices.specs.Device.{Pages}
use Rattle.wt_tree.specs.Plain.{ended, plains_before}
use Rattle.wt_tree.specs.Source.{flat_of_all}
use Rattle.wt_tree.specs.Tiling.{TiledFrom}
use Rattle.wt_tree.specs.Tree.{Tree, tree, Trees, label}
use Rattle.wt_span.specs.Origins.{OuterCall}
use Rattle.wt_checks.specs.Kept.{children}
use Rattle.wt_expand.specs.PageCalls.{expanded_page}
use Rattle.wt_annotated.specs.Annotated.{annotated}
use Rattle.wt_annotated.specs.GroupData.{group_data}
use Rattle.wt_annotated.specs.Numbering.{next_after}
use Rattle.wt_annotated.specs.Reached.{reached_in_all}
use Rattle.wt_annotated.specs.Slices.{IsSlice}
use Rattle.wt_part_laws.specs.Frames.{all_places, content}
use Rattle.wt_part_laws.specs.Placeless.{all_placeless}
use Rattle.wt_part_laws.proofs.Placeless.{all_shown_placeless}
use Rattle.wt_typed_blocks.specs.Edited.{Edited, Edits, page_nodes, AreOutside, edits_show}
use Rattle.wt_typed_blocks.specs.EditedPage.{edited_sources, AreTaken, LieAt, AreApart}
use Rattle.wt_visible.specs.Children.{shown_children, listed}
use Rattle.wt_visible.specs.SameNodes.{same_node}
use Rattle.wt_text_edit_laws.specs.BlockSpots.{BlockSpot, spots_source, AreContents}
use Rattle.wt_text_edit_laws.specs.TextBlocks.{TextBlock, a_paragraph, a_heading, block_tree}
use Rattle.wt_called_edit_laws.specs.CalledBlocks.{tree_by, counted}
use Rattle.wt_called_edit_laws.specs.CalledTexts.{spots_tree}
use Rattle.wt_called_edit_laws.specs.EditsAt.{AllStand, edited_by, with_contents, IsContentEdit}
use Rattle.wt_called_edit_laws.proofs.Cells.SpotTrees.{counted_same}
use Rattle.wt_called_edit_laws.specs.Retyped.{AreRetyped}
use Rattle.wt_called_edit_laws.proofs.Parts.Retyped.{typed_again}
use Rattle.wt_called_edit_laws.proofs.Cells.CalledFrames.{among_contents}
use Rattle.wt_part_laws.specs.TreeFrames.{TreeFrames, all_filled, spots}
use Rattle.wt_called_edit_laws.specs.CalledPages.{IsCalledPage}
use Rattle.wt_called_edit_laws.proofs.CleanAgain.{outside_again}
use Rattle.wt_called_edit_laws.proofs.GroupsAmong.{calls_same, own_among, retyped_self}
use Rattle.wt_called_edit_laws.proofs.Untangled.{blocks_untangled}
use Rattle.wt_called_edit_laws.specs.Nodes.{IsBlock, AreBlocks, block_at, NoneLeaves, AreHolders, NodesStay}
use Rattle.wt_called_edit_laws.specs.PathsTo.{paths_to, AreEditedThere}
use Rattle.wt_called_edit_laws.specs.Sends.{AllSend, MakesNodes}
use Rattle.wt_called_edit_laws.proofs.CutFrames.{nodes_stay}
use Rattle.wt_called_edit_laws.proofs.HoldersSent.{blocks_free}
use Rattle.wt_called_edit_laws.proofs.PathsSend.{paths_send}
use Rattle.wt_called_edit_laws.proofs.TextsMake.{all_flat_same, contents_make}
use Rattle.wt_called_edit_laws.proofs.TilesStand.{blocks_stand}
use Rattle.wt_called_edit_laws.proofs.BlocksMade.{AreMadeSpots, all_made, blocks_made, all_taken, contents_retyped}
use Rattle.wt_called_edit_laws.proofs.CalledUtf8.{called_utf8, retyped}
use Rattle.wt_called_edit_laws.proofs.Leads.{all_stand, edit_at, edited_there}
use Rattle.wt_called_edit_laws.proofs.NodeGaps.{AreThePage, have_sources, filled_page, gaps_so, numbers_so}
use Rattle.wt_called_edit_laws.proofs.PageBody.{IsBodyOf, page_body}
use Rattle.wt_called_edit_laws.proofs.PagesSettled.{called_settled}
use Rattle.wt_called_edit_laws.proofs.TextsUntangled.{edit_untangled, body_settled}

-- ---- each block is a paragraph or a heading

is_block : (k : TextBlock) (q : List ℕ) → IsBlock (block_tree k q)
is_block a_paragraph q = inl refl
is_block (a_heading s) q = inr (s.level, refl)

tree_is_block : (ss : List BlockSpot) (n : ℕ) → IsBlock (tree_by ss n)
tree_is_block [] n = is_block a_paragraph []
tree_is_block (s ∷ ss) zero = is_block s.block s.text
tree_is_block (s ∷ ss) (suc n) = tree_is_block ss n

all_blocks : (ss : List BlockSpot) (ns : List ℕ) → AreBlocks (tree_by ss) ns
all_blocks ss [] = tt
all_blocks ss (n ∷ ns) = (tree_is_block ss n, all_blocks ss ns)

-- ---- the page's nodes

-- With any contents in the blocks the page is text, it is expanded, and its nodes are the same but for the blocks.
pub record IsFramedPage (pages : Pages) (ss : List BlockSpot) (behind : List ℕ) : Type 0 where
  pub nodes : TreeFrames
  pub in_order : spots nodes ≡ counted ss
  pub inner_nodes : NoneLeaves nodes
  pub holders : AreHolders nodes content
  pub again : (rs : List BlockSpot) → AreRetyped ss rs → IsCalledPage pages rs behind
  pub stay : (rs : List BlockSpot) → AreRetyped ss rs → all_placeless (children (spots_tree pages rs behind)) ≡ all_filled (block_at (tree_by rs)) nodes

pub called_again : (pages : Pages) (ss rs : List BlockSpot) (behind : List ℕ) → IsCalledPage pages ss behind → AreRetyped ss rs → IsCalledPage pages rs behind
called_again pages ss rs behind h t = record {
  outside = outside_again pages ss rs behind h.outside t;
  unrefused = (typed_again pages ss rs behind h.outside.among.called t).unrefused h.unrefused;
}

pub framed_page : (pages : Pages) (ss : List BlockSpot) (behind : List ℕ) → IsCalledPage pages ss behind → IsFramedPage pages ss behind
framed_page pages ss behind h =
    let f = h.outside.stand in
    let calls : List OuterCall = (expanded_page pages (spots_source ss behind)).outer in
    let n : NodesStay calls f.frames =
    nodes_stay calls f.frames (tree_by ss) f.of_cells (own_among pages ss ss behind h.outside (retyped_self ss)) h.outside.clean in
    record {
      nodes = n.nodes;
      in_order = n.in_order ∙ f.in_order;
      inner_nodes = n.inner_nodes;
      holders = n.holders;
      again = λ rs t. called_again pages ss rs behind h t;
      stay = λ rs t.
          let others : List OuterCall = (expanded_page pages (spots_source rs behind)).outer in
          ap (λ m. all_placeless (children (annotated others (group_data others) m))) (f.means rs t)
          ∙ n.stay others (tree_by rs) (calls_same pages ss rs behind h.outside.among t) (own_among pages ss rs behind h.outside t)
          (all_blocks rs (all_places f.frames));
    }

-- ---- its body, with any contents

pub spots_utf8 : (pages : Pages) (ss : List BlockSpot) (behind : List ℕ) → IsCalledPage pages ss behind → IsUtf8 (spots_source ss behind)
spots_utf8 pages ss behind h = called_utf8 pages ss behind h.outside.among.called

pub spots_body : (pages : Pages) (ss : List BlockSpot) (behind : List ℕ) → IsCalledPage pages ss behind
    → IsBodyOf (spots_source ss behind) (spots_tree pages ss behind)
spots_body pages ss behind h = page_body pages (spots_source ss behind) (spots_utf8 pages ss behind h) h.unrefused

pub spots_contents : (pages : Pages) (ss : List BlockSpot) (behind : List ℕ) → IsCalledPage pages ss behind → AreContents ss
spots_contents pages ss behind h = among_contents pages ss behind h.outside.among

-- its nodes have the page's source
nodes_source : (pages : Pages) (ss rs : List BlockSpot) (behind : List ℕ) (f : IsFramedPage pages ss behind) → AreRetyped ss rs
    → flat_of_all (all_filled (block_at (tree_by rs)) f.nodes) ≡ spots_source rs behind
nodes_source pages ss rs behind f t =
    sym (ap flat_of_all (f.stay rs t))
    ∙ all_flat_same (children (spots_tree pages rs behind))
    ∙ (spots_body pages rs behind (f.again rs t)).source

pub are_the_page : (pages : Pages) (ss : List BlockSpot) (behind : List ℕ) (f : IsFramedPage pages ss behind) → AreThePage f.nodes ss behind
are_the_page pages ss behind f = λ rs e b o.
    filled_page (block_at (tree_by rs)) rs behind f.nodes (have_sources (tree_by rs) (spots f.nodes)) f.inner_nodes (f.in_order ∙ sym (counted_same ss rs e))
    (nodes_source pages ss rs behind f (retyped ss rs e o))

-- ---- the paths

abbrev pub paths_of : {pages : Pages} {ss : List BlockSpot} {behind : List ℕ} → IsFramedPage pages ss behind → List (List ℕ)
paths_of f = paths_to f.nodes

pub spots_stand : (pages : Pages) (ss : List BlockSpot) (behind : List ℕ) (f : IsFramedPage pages ss behind) → IsCalledPage pages ss behind
    → AllStand ss (paths_of f) (spots_tree pages ss behind)
spots_stand pages ss behind f h =
    let body = spots_body pages ss behind h in
    all_stand ss content f.nodes (spots_tree pages ss behind) f.holders f.in_order (spots_contents pages ss behind h) body.kind
    (called_settled pages (spots_source ss behind)) (f.stay ss (retyped_self ss))

-- ---- the edit

-- the blocks with the contents that were edited
abbrev pub new_spots : {pages : Pages} {ss : List BlockSpot} {behind : List ℕ} → IsFramedPage pages ss behind → Edits → List BlockSpot
new_spots {ss = ss} f es = with_contents ss (map (edited_by es) (paths_of f))

-- What holds of what is sent.
pub record AreWellSent (pages : Pages) (ss : List BlockSpot) (behind : List ℕ) (f : IsFramedPage pages ss behind) (es : Edits) : Type 0 where
  pub made : AreMadeSpots ss (map (edited_by es) (paths_of f))
  pub retyped : AreRetyped ss (new_spots f es)
  pub sends : AllSend (edit_at (map (edited_by es) (paths_of f))) f.nodes es
  pub old : all_placeless (page_nodes es) ≡ all_filled (block_at (tree_by ss)) f.nodes
  pub outside : AreOutside es
  pub taken : AreTaken same_node es
  pub lie : LieAt 0 es
  pub apart : AreApart (expanded_page pages (spots_source ss behind)) (spots_source ss behind) es
  pub new : edited_sources same_node es ≡ spots_source (new_spots f es) behind
  pub shows : shown_children (spots_tree pages (new_spots f es) behind) ≡ listed (edits_show es)

shown_so : (t : Tree) → shown_children t ≡ listed (plains_before (children t) ended)
shown_so (tree l ts) = refl

pub well_sent : (pages : Pages) (ss : List BlockSpot) (behind : List ℕ) (f : IsFramedPage pages ss behind) (es : Edits) → IsCalledPage pages ss behind
    → IsContentEdit (spots_tree pages ss behind) ss (paths_of f) es → AreWellSent pages ss behind f es
well_sent pages ss behind f es h e =
    let page : List ℕ = spots_source ss behind in
    let t : Tree = spots_tree pages ss behind in
    let os : List (Option Edited) = map (edited_by es) (paths_of f) in
    let rs : List BlockSpot = new_spots f es in
    let body = spots_body pages ss behind h in
    let stand : AllStand ss (paths_of f) t = spots_stand pages ss behind f h in
    let contents : AreContents ss = spots_contents pages ss behind h in
    let spots_made : AreMadeSpots ss os = all_made ss (paths_of f) t es contents stand e.old e.fit in
    let again : AreRetyped ss rs = contents_retyped ss os spots_made in
    let old : all_placeless (page_nodes es) ≡ all_filled (block_at (tree_by ss)) f.nodes = ap all_placeless e.old ∙ f.stay ss (retyped_self ss) in
    let sends : AllSend (edit_at os) f.nodes es =
    paths_send f.nodes (edit_at os) (block_at (tree_by ss)) es old e.edits
    (subst (λ (ns : List ℕ). AreEditedThere (edit_at os) es ns (paths_of f)) (sym f.in_order) (edited_there ss (paths_of f) es t stand)) in
    let free = blocks_free f.nodes (edit_at os) (block_at (tree_by ss)) es f.holders sends old in
    let lie : LieAt 0 es =
    blocks_stand page 0 (length page - 0) es free.0 (subst (λ (us : Trees). TiledFrom us 0 (length page - 0)) (sym e.old) body.tiled)
    (subst (λ (us : Trees). AllByRecursion (IsSlice page) (reached_in_all us)) (sym e.old) body.slices) in
    let nodes_made : MakesNodes es (all_filled (block_at (tree_by rs)) f.nodes) =
    contents_make f.nodes (edit_at os) (block_at (tree_by ss)) (block_at (tree_by rs)) es f.inner_nodes (blocks_made ss os spots_made) sends old in
    record {
      made = spots_made;
      retyped = again;
      sends = sends;
      old = old;
      outside = free.1;
      taken = all_taken ss os f.nodes es spots_made sends;
      lie = lie;
      apart =
          edit_untangled (expanded_page pages page) page (edit_at os) (block_at (tree_by ss)) ss content f.nodes es (next_after (label t).kind 1)
          (have_sources (tree_by ss) (spots f.nodes)) f.inner_nodes f.holders
          (gaps_so ss behind f.nodes f.in_order contents (are_the_page pages ss behind f)) (numbers_so ss f.nodes f.in_order)
          (blocks_untangled pages ss behind h.outside.among) sends old
          (e.old ∙ body_settled t (all_filled (block_at (tree_by ss)) f.nodes) body.kind (called_settled pages page) (ap length body.opening) (f.stay ss (retyped_self ss))) lie;
      new = nodes_made.sources ∙ nodes_source pages ss rs behind f again;
      shows =
          let us : Trees = children (spots_tree pages rs behind) in
          shown_so (spots_tree pages rs behind)
          ∙ ap listed (sym (all_shown_placeless us ended) ∙ ap (λ vs. plains_before vs ended) (f.stay rs again) ∙ sym (nodes_made.show ended));
    }
