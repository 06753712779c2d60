-- The tree of a page with calls is settled, and so it is given by its nodes with the blocks among them.
use Rattle.std.proofs.Common.{◌≡◌, ℕ, List, ap, ap₂, ◌∙◌}
use Rattle.wt_expand.specs.Work.{Pages}
use Rattle.wt_tree.specs.Tree.{Label, Tree, tree, Trees, label}
use Rattle.wt_sections.specs.Sections.{with_sections}
use Rattle.wt_checks.specs.Kept.{children}
use Rattle.wt_part_laws.specs.Placeless.{placeless, all_placeless}
use Rattle.wt_text_edit_laws.specs.BlockSpots.{BlockSpot, spots_source}
use Rattle.wt_called_edit_laws.specs.Retyped.{AreRetyped}
use Rattle.wt_part_laws.specs.HeldCalls.{AllHold}
use Rattle.wt_part_laws.specs.Rounded.{body_label}
use Rattle.wt_part_laws.specs.TreeFrames.{all_filled}
use Rattle.wt_called_edit_laws.specs.Nodes.{block_at}
use Rattle.wt_called_edit_laws.specs.CalledBlocks.{tree_by, counted}
use Rattle.wt_called_edit_laws.specs.CallingBlocks.{AreEdited, tree_with_calls}
use Rattle.wt_called_edit_laws.specs.CallingGroups.{AreCallingOutside, block_with_groups, CallingGroupsStay, CallingNodesStay}
use Rattle.wt_called_edit_laws.specs.CalledPages.{IsCalledPage}
use Rattle.wt_called_edit_laws.specs.Groups.{called_tree, GroupsStayAmong}
use Rattle.wt_called_edit_laws.proofs.GroupsAmong.{groups_among}
use Rattle.wt_called_edit_laws.proofs.CallingGroups.{calling_groups, calling_nodes}
use Rattle.wt_called_edit_laws.proofs.EditFacts.{IsFramedPage, framed_page}
use Rattle.wt_called_edit_laws.specs.Settled.{page_settled}
use Rattle.wt_called_edit_laws.specs.SettledPages.{OnlyTextsAreOthers, OnlyBlocksAreOthers}
use Rattle.wt_called_edit_laws.proofs.PagesSettled.{called_settled}

-- a tree by its label and what it holds, without numbers and places
placeless_is : (t : Tree) (l : Label) (us : Trees) → label (placeless t) ≡ l → all_placeless (children t) ≡ us → placeless t ≡ tree l us
placeless_is (tree k ts) l us e f = ap₂ tree e f

label_is : (pages : Pages) (ss rs : List BlockSpot) (behind : List ℕ) (g : GroupsStayAmong pages ss behind) → AreRetyped ss rs
    → label (placeless (called_tree pages (spots_source rs behind))) ≡ body_label
label_is pages ss rs behind g t = ap label (g.stay rs t)

by_nodes : (pages : Pages) (ss : List BlockSpot) (behind : List ℕ) → IsFramedPage pages ss behind → IsCalledPage pages ss behind → OnlyTextsAreOthers pages ss behind
by_nodes pages ss behind f h = record {
  nodes = f.nodes;
  in_order = f.in_order;
  trees = λ rs t.
      ap with_sections
      (called_settled pages (spots_source rs behind)
      ∙ ap page_settled
      (placeless_is (called_tree pages (spots_source rs behind)) body_label (all_filled (block_at (tree_by rs)) f.nodes)
      (label_is pages ss rs behind (groups_among pages ss behind h.outside) t) (f.stay rs t)));
}

pub only_texts : (pages : Pages) (ss : List BlockSpot) (behind : List ℕ) → IsCalledPage pages ss behind → OnlyTextsAreOthers pages ss behind
only_texts pages ss behind h = by_nodes pages ss behind (framed_page pages ss behind h) h

-- ---- of blocks that call

label_with_calls : (pages : Pages) (ss rs : List BlockSpot) (behind : List ℕ) (g : CallingGroupsStay pages ss behind) → AreEdited pages ss rs
    → AllHold (tree_with_calls pages 0 rs) (counted rs) → label (placeless (called_tree pages (spots_source rs behind))) ≡ body_label
label_with_calls pages ss rs behind g t o = ap label (g.stay rs t o)

pub only_blocks : (pages : Pages) (ss : List BlockSpot) (behind : List ℕ) → AreCallingOutside pages ss behind → OnlyBlocksAreOthers pages ss behind
only_blocks pages ss behind h =
    let f : CallingNodesStay pages ss behind = calling_nodes pages ss behind h in
    record {
      nodes = f.nodes;
      in_order = f.in_order;
      trees = λ rs t o.
          ap with_sections
          (called_settled pages (spots_source rs behind)
          ∙ ap page_settled
          (placeless_is (called_tree pages (spots_source rs behind)) body_label (all_filled (block_with_groups pages rs behind) f.nodes)
          (label_with_calls pages ss rs behind (calling_groups pages ss behind h) t o) (f.stay rs t o)));
    }
