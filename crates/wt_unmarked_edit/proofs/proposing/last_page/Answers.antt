use Rattle.wt_visible.specs.SameNodes.{same_node}
use Rattle.wt_visible.proofs.SameTells.{tells_same}
use Rattle.wt_unmarked_edit.proofs.proposing.last_page.Goals as goal

pub page_of_edit-requires-clause-edited : goal.page_of_edit-requires-clause-edited
page_of_edit-requires-clause-edited g c = c.in-Ok.ensures same_node tells_same

pub page_of_refused-requires-clause-edited : goal.page_of_refused-requires-clause-edited
page_of_refused-requires-clause-edited g c = c.in-Err.ensures same_node tells_same
