-- A text edit is local: what the page means outside of the marked blocks stays as it was.
use Rattle.std.specs.Prelude.{◌≡◌, ℕ, Some, List, map}
use Rattle.wt_tree.specs.Tree.{Tree}
use Rattle.wt_checks.specs.Kept.{children}
use Rattle.wt_expand.specs.Work.{Pages}
use Rattle.wt_page_round_trip.specs.PageTree.{page_tree}
use Rattle.wt_slices.specs.BodySlices.{slices}
use Rattle.wt_slices.specs.Changes.{marked}
use Rattle.wt_splice.specs.Splice.{spliced}
use Rattle.wt_visible.specs.SameNodes.{same_node}
use Rattle.wt_typed_blocks.specs.Edited.{page_nodes}
use Rattle.wt_called_edit_laws.specs.Groups.{called_tree}
use Rattle.wt_called_edit_laws.specs.LocalChange.{IsLocalChange}
use Rattle.wt_inside_laws.specs.AsSent.{edits_of, paths_of, node_at}
use Rattle.wt_inside_laws.specs.SectionsAlike.{AreInSectionsAs}

-- What was sent is an edit of the page's own nodes, at the marked blocks and nowhere else; between the page and the new page it is local; and the new page
-- has the page's sections, with what they hold.
pub record IsLocalTextEdit (pages : Pages) (page : List ℕ) (new : Tree) : Type 0 where
  pub old : page_nodes (edits_of (called_tree pages page) new) ≡ children (called_tree pages page)
  pub at : map (λ path. node_at path (called_tree pages page)) (paths_of (edits_of (called_tree pages page) new))
      ≡ map (λ p. Some p.old) (marked (page_tree pages page) new)
  pub sections : AreInSectionsAs (children (page_tree pages page)) (children (page_tree pages (spliced page (slices same_node (page_tree pages page) new))))
  pub local : IsLocalChange pages page (spliced page (slices same_node (page_tree pages page) new)) (edits_of (called_tree pages page) new)
