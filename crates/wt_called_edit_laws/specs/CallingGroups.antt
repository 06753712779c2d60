-- A page in whose paragraphs and headings calls may be: its groups and its other nodes.
use Rattle.std.specs.Prelude.{◌≡◌, ℕ, None, List}
use Rattle.wt_expand.specs.Work.{Pages}
use Rattle.wt_expand.specs.PageCalls.{expanded_page}
use Rattle.wt_tree.specs.Tree.{Tree, tree}
use Rattle.wt_annotated.specs.CutTexts.{cut_texts}
use Rattle.wt_checks.specs.Kept.{children}
use Rattle.wt_part_laws.specs.Placeless.{placeless, all_placeless}
use Rattle.wt_part_laws.specs.Frames.{content}
use Rattle.wt_text_edit_laws.specs.BlockSpots.{BlockSpot, spots_source}
use Rattle.wt_part_laws.specs.HeldCalls.{AllHold, block_in, blocks_in}
use Rattle.wt_part_laws.specs.Rounded.{AreClean, AreCleanThere, body_label}
use Rattle.wt_part_laws.specs.TreeFrames.{TreeFrames, all_filled, spots}
use Rattle.wt_called_edit_laws.specs.CalledBlocks.{counted}
use Rattle.wt_called_edit_laws.specs.CallingBlocks.{AreEdited, AreCallingBlocks, tree_with_calls, CallingBlocksStand}
use Rattle.wt_called_edit_laws.specs.Groups.{called_tree}
use Rattle.wt_called_edit_laws.specs.Nodes.{NoneLeaves, AreHolders}

-- The blocks may be among calls and hold calls. Whatever is written in them beside their calls, no call goes over the end of one in the page's tree, and no
-- node round one of them is in a group.
pub record AreCallingOutside (pages : Pages) (ss : List BlockSpot) (behind : List ℕ) : Type 0 where
  pub blocks : AreCallingBlocks pages ss behind
  pub stand : CallingBlocksStand pages ss behind
  pub hold : AllHold (tree_with_calls pages 0 ss) (counted ss)
  pub clean : (rs : List BlockSpot) → AreEdited pages ss rs → AllHold (tree_with_calls pages 0 rs) (counted rs)
      → AreClean (tree_with_calls pages 0 rs) None stand.frames None × AreCleanThere (tree_with_calls pages 0 rs) None stand.frames None

-- the block with this number in the page, with the groups in it, but for numbers and places
abbrev pub block_with_groups : Pages → List BlockSpot → List ℕ → ℕ → Tree
block_with_groups pages ss behind n = cut_texts (block_in (expanded_page pages (spots_source ss behind)).outer (tree_with_calls pages 0 ss n))

-- Whatever is written in them beside their calls, the children of the page's body are these nodes with the blocks among them, but for numbers and
-- places.
pub record CallingNodesStay (pages : Pages) (ss : List BlockSpot) (behind : List ℕ) : Type 0 where
  pub nodes : TreeFrames
  pub in_order : spots nodes ≡ counted ss
  pub inner_nodes : NoneLeaves nodes
  pub holders : AreHolders nodes content
  pub stay : (rs : List BlockSpot) → AreEdited pages ss rs → AllHold (tree_with_calls pages 0 rs) (counted rs)
      → all_placeless (children (called_tree pages (spots_source rs behind))) ≡ all_filled (block_with_groups pages rs behind) nodes

-- Whatever is written in them beside their calls, the page's tree has the same groups round them, and the same other nodes: but for numbers and places
-- it is one tree with these blocks, and the groups in them, at places in it, its texts cut anew.
pub record CallingGroupsStay (pages : Pages) (ss : List BlockSpot) (behind : List ℕ) : Type 0 where
  pub nodes : TreeFrames
  pub in_order : spots nodes ≡ counted ss
  pub stay : (rs : List BlockSpot) → AreEdited pages ss rs → AllHold (tree_with_calls pages 0 rs) (counted rs)
      → placeless (called_tree pages (spots_source rs behind))
      ≡ cut_texts (tree body_label (all_filled (blocks_in (expanded_page pages (spots_source rs behind)).outer (tree_with_calls pages 0 rs)) nodes))
