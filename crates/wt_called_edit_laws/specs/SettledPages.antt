-- The trees of a page with calls, whatever is written in its paragraphs and headings.
use Rattle.std.specs.Prelude.{◌≡◌, ℕ, List}
use Rattle.wt_expand.specs.Expansion.{page_work}
use Rattle.wt_expand.specs.PageCalls.{expanded_page}
use Rattle.wt_expand.specs.Work.{Pages}
use Rattle.wt_tree.specs.Tree.{Tree, tree, label}
use Rattle.wt_sections.specs.Sections.{with_sections}
use Rattle.wt_page_round_trip.specs.PageTree.{page_tree}
use Rattle.wt_text_edit_laws.specs.BlockSpots.{BlockSpot, spots_source}
use Rattle.wt_called_edit_laws.specs.Retyped.{AreRetyped, AreSomeOf}
use Rattle.wt_part_laws.specs.MovedCalls.{AreMoved}
use Rattle.wt_part_laws.specs.HeldCalls.{AllHold}
use Rattle.wt_part_laws.specs.Rounded.{body_label}
use Rattle.wt_part_laws.specs.TreeFrames.{TreeFrames, all_filled, spots}
use Rattle.wt_called_edit_laws.specs.Nodes.{block_at}
use Rattle.wt_called_edit_laws.specs.CalledBlocks.{tree_by, counted}
use Rattle.wt_called_edit_laws.specs.CallingBlocks.{AreEdited, tree_with_calls}
use Rattle.wt_called_edit_laws.specs.CallingEdits.{StaysAt}
use Rattle.wt_called_edit_laws.specs.CallingGroups.{block_with_groups}
use Rattle.wt_called_edit_laws.specs.Settled.{page_settled}

-- Nothing but these blocks is another one: the tree is that of the same nodes with the blocks at their places, its numbers and places counted
-- anew, in its sections.
pub record OnlyTextsAreOthers (pages : Pages) (ss : List BlockSpot) (behind : List ℕ) : Type 0 where
  pub nodes : TreeFrames
  pub in_order : spots nodes ≡ counted ss
  pub trees : (rs : List BlockSpot) → AreRetyped ss rs
      → page_tree pages (spots_source rs behind) ≡ with_sections (page_settled (tree body_label (all_filled (block_at (tree_by rs)) nodes)))

-- So it is where the blocks hold calls: each of them is there with its groups.
pub record OnlyBlocksAreOthers (pages : Pages) (ss : List BlockSpot) (behind : List ℕ) : Type 0 where
  pub nodes : TreeFrames
  pub in_order : spots nodes ≡ counted ss
  pub trees : (rs : List BlockSpot) → AreEdited pages ss rs → AllHold (tree_with_calls pages 0 rs) (counted rs)
      → page_tree pages (spots_source rs behind) ≡ with_sections (page_settled (tree body_label (all_filled (block_with_groups pages rs behind) nodes)))

-- ---- after an edit

-- the same kind and delimiters
pub record AreKindred (t u : Tree) : Type 0 where
  pub kind : (label t).kind ≡ (label u).kind
  pub opening : (label t).opening ≡ (label u).opening
  pub closing : (label t).closing ≡ (label u).closing

-- With these contents in the blocks nothing else of the page is another one. Both trees are those of the same nodes, with the blocks and their groups at
-- places in them, numbers and places counted anew, in their sections; a block in which nothing else is written is the same, and each has its kind and
-- delimiters. The page has the same calls but for their places, and its expansion is the same work, or some of it.
pub record OnlyTheseAreOthers (pages : Pages) (ss rs : List BlockSpot) (behind : List ℕ) : Type 0 where
  pub nodes : TreeFrames
  pub in_order : spots nodes ≡ counted ss
  pub was : page_tree pages (spots_source ss behind) ≡ with_sections (page_settled (tree body_label (all_filled (block_with_groups pages ss behind) nodes)))
  pub now : page_tree pages (spots_source rs behind) ≡ with_sections (page_settled (tree body_label (all_filled (block_with_groups pages rs behind) nodes)))
  pub same : (n : ℕ) → StaysAt ss rs n → block_with_groups pages ss behind n ≡ block_with_groups pages rs behind n
  pub kindred : (n : ℕ) → AreKindred (block_with_groups pages ss behind n) (block_with_groups pages rs behind n)
  pub calls : AreMoved (expanded_page pages (spots_source ss behind)).outer (expanded_page pages (spots_source rs behind)).outer
  pub work : AreSomeOf (page_work pages (spots_source rs behind)) (page_work pages (spots_source ss behind))
