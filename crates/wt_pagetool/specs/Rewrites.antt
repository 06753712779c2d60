-- What a call of `selser` wrote.
use Rattle.std.specs.Prelude.{◌≡◌, ◌≤◌, ℕ, List, length, Option, Some, None}
use Rattle.std.specs.Io.KnownBytes.{Appends, IsAtEnd}
use Rattle.wt_devices.specs.Device.{Pages}
use Rattle.wt_expand.specs.PageCalls.{expanded_page}
use Rattle.wt_tree.specs.Tree.{Tree}
use Rattle.wt_tree.specs.Plain.{plain}
use Rattle.wt_schema.specs.Read.{page as as_page, read}
use Rattle.wt_page_round_trip.specs.PageTree.{page_tree}
use Rattle.wt_checks.specs.Checked.{nodes_checked}
use Rattle.wt_difference.specs.Difference.{are_none, difference}
use Rattle.wt_visible.specs.Restored.{restored_from}
use Rattle.wt_span.specs.declared.limits.TheConstants.{HTML_BYTES}
use Rattle.wt_unmarked_edit.specs.Found.{IsMade}
use Rattle.wt_commands.specs.Answers.{refusal_of_page, remarked_of, IsUnrefused}

-- Under the title is a page whose expansion nothing refuses, and the whole input stands for an edited tree none of whose
-- nodes is refused; `out` took a new page, which is made of the page's edit by its difference. Nothing refuses the new page or its expansion,
-- and the plain view of its tree is that of the edited tree, in which a kept group is what the page's group of its number holds.
pub record WroteSelser (pages : Pages) (title input : List ℕ) (left old new : Option (List ℕ)) : Type 0 where
  pub page : List ℕ
  pub edited : Tree
  pub unsourced : Option ℕ
  pub changed : List ℕ
  pub found : pages title ≡ Some page
  pub within : length input ≤ HTML_BYTES
  pub reads : read input ≡ as_page edited unsourced
  pub ended : IsAtEnd left
  pub expanded : refusal_of_page pages page ≡ None
  pub allowed : nodes_checked (page_tree pages page) (remarked_of pages page edited) ≡ None
  pub made : IsMade pages (expanded_page pages page) page (page_tree pages page) (remarked_of pages page edited)
      (are_none (difference (page_tree pages page) edited)) changed
  pub wrote : Appends old new changed
  pub answered : IsUnrefused pages changed
  pub shows : plain (page_tree pages changed) ≡ plain (restored_from (page_tree pages page) edited)
