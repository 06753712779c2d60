use Rattle.std.proofs.Common.{ap, ◌∙◌}
use Rattle.wt_span.specs.Items.{items}
use Rattle.wt_inline.specs.View.{item_tree}
use Rattle.wt_selser.proofs.GroupFaultLaws.{nodes_alone}
use Rattle.wt_selser.proofs.group_fault.nodes_of.Goals as goal

pub returns : goal.returns
returns c =
    c.in_ok-nodes.ensures ∙ nodes_alone c.into_body-children.result (items c.args.pieces.now) (ap item_tree c.into_body-children.ensures ∙ c.in_ok-tree.ensures)
