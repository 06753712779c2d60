-- A page with calls in whose paragraphs and headings texts are typed: its groups and its other nodes.
use Rattle.std.specs.Prelude.{◌≡◌, ℕ, None, List}
use Rattle.wt_expand.specs.Work.{Pages}
use Rattle.wt_expand.specs.PageCalls.{expanded_page}
use Rattle.wt_tree.specs.Tree.{Tree, tree}
use Rattle.wt_page.specs.Body.{meaning}
use Rattle.wt_annotated.specs.Annotated.{annotated}
use Rattle.wt_annotated.specs.CutTexts.{cut_texts}
use Rattle.wt_annotated.specs.GroupData.{group_data}
use Rattle.wt_part_laws.specs.Placeless.{placeless}
use Rattle.wt_text_edit_laws.specs.BlockSpots.{BlockSpot, spots_source}
use Rattle.wt_called_edit_laws.specs.Retyped.{AreRetyped}
use Rattle.wt_part_laws.specs.Rounded.{AreClean, body_label, block_alone}
use Rattle.wt_part_laws.specs.TreeFrames.{TreeFrames, all_filled, spots}
use Rattle.wt_called_edit_laws.specs.CalledBlocks.{AreAmongCalls, tree_by, counted, StandAmongCalls}

-- the tree of a page, without its sections
abbrev pub called_tree : Pages → List ℕ → Tree
called_tree pages bs = let e = expanded_page pages bs in annotated e.outer (group_data e.outer) (meaning e.items)

-- The blocks are among calls, and no node round one of them is in a group: each is clean.
pub record AreOutsideGroups (pages : Pages) (ss : List BlockSpot) (behind : List ℕ) : Type 0 where
  pub among : AreAmongCalls pages ss behind
  pub stand : StandAmongCalls pages ss behind
  pub clean : AreClean (tree_by ss) None stand.frames None

-- Whatever texts are typed in them, the page's tree has the same groups, and the same other nodes: but for numbers and places it is one tree with
-- these blocks at places in it, its texts cut anew.
pub record GroupsStayAmong (pages : Pages) (ss : List BlockSpot) (behind : List ℕ) : Type 0 where
  pub nodes : TreeFrames
  pub in_order : spots nodes ≡ counted ss
  pub stay : (rs : List BlockSpot) → AreRetyped ss rs
      → placeless (called_tree pages (spots_source rs behind)) ≡ cut_texts (tree body_label (all_filled (block_alone (tree_by rs)) nodes))
