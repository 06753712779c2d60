-- HTML that makes a text edit of a page: what is asked of it.
use Rattle.std.specs.Prelude.{◌≡◌, ℕ, ◌≤◌, List, length, Option}
use Rattle.std.specs.List.{AllByRecursion}
use Rattle.wt_span.specs.declared.limits.TheConstants.{HTML_BYTES, PAGE_BYTES}
use Rattle.wt_tree.specs.Tree.{Tree}
use Rattle.wt_expand.specs.PageCalls.{expanded_page}
use Rattle.wt_expand.specs.Work.{Pages}
use Rattle.wt_page_round_trip.specs.PageTree.{page_tree}
use Rattle.wt_schema.specs.Read.{page as as_page, read}
use Rattle.wt_slices.specs.Changes.{marked}
use Rattle.wt_visible.specs.SameNodes.{same_node}
use Rattle.wt_called_edit_laws.specs.Groups.{called_tree}
use Rattle.wt_inside_laws.specs.AsSent.{edits_of, paths_of, AreSomeOf}
use Rattle.wt_inside_laws.specs.TextEdits.{IsTextEdit}
use Rattle.wt_inside_laws.specs.ToldEdits.{IsOrdinary}

-- HTML that is read as this tree, and that is a text edit of a page with these blocks at these paths: each marked one is at one of
-- them, and ordinary. Neither the page nor the HTML is longer than it may be.
pub record IsHtmlEdit (pages : Pages) (page input : List ℕ) (paths : List (List ℕ)) (new : Tree) (unsourced : Option ℕ) : Type 0 where
  pub reads : read input ≡ as_page new unsourced
  pub edit : IsTextEdit same_node (expanded_page pages page) page (page_tree pages page) new
  pub ordinary : AllByRecursion IsOrdinary (marked (page_tree pages page) new)
  pub among : AreSomeOf (paths_of (edits_of (called_tree pages page) new)) paths
  pub short : length page ≤ PAGE_BYTES
  pub within : length input ≤ HTML_BYTES
