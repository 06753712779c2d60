-- The tree of each page is settled, whatever it calls.
use Rattle.std.proofs.Common.{ℕ, List}
use Rattle.wt_span.specs.Origins.{Expanded}
use Rattle.wt_expand.specs.PageCalls.{expanded_page}
use Rattle.wt_expand.specs.Work.{Pages}
use Rattle.wt_inline.specs.ItemTree.{forest}
use Rattle.wt_inline.specs.Parts.{children}
use Rattle.wt_page.specs.Body.{meaning, body_parts}
use Rattle.wt_page.specs.Rows.{rows}
use Rattle.wt_annotated.specs.GroupData.{group_data}
use Rattle.wt_called_edit_laws.specs.Groups.{called_tree}
use Rattle.wt_called_edit_laws.specs.Settled.{IsSettled}
use Rattle.wt_called_edit_laws.proofs.Settles.{settled_tree}

pub called_settled : (pages : Pages) (page : List ℕ) → IsSettled (called_tree pages page)
unfolding meaning
called_settled pages page =
    let e : Expanded = expanded_page pages page in
    settled_tree e.outer (group_data e.outer) (forest (children (body_parts (rows e.items))))
