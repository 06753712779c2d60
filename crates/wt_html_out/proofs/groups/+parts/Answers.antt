use Rattle.std.proofs.Common.{sym, ◌∙◌, arith, append_assoc}
use Rattle.std.proofs.lemmas.Grind.{common_steps}
use Rattle.wt_tree.specs.View.{label_of}
use Rattle.wt_tree.specs.declared.node.Node.{out-Node}
use Rattle.wt_html_out.proofs.ShownParts.{part_element}
use Rattle.wt_html_out.proofs.groups.+parts.Goals as goal

pub push_part-returns-in_ok-push_group_element-in-Element-clause-text : goal.push_part-returns-in_ok-push_group_element-in-Element-clause-text
push_part-returns-in_ok-push_group_element-in-Element-clause-text t c =
    rw (part_element c.args.progress c.args.number (label_of (out-Node c.args.group.now)) c.args.node.now (sym c.showing.ensures ∙ c.in-Element.is))
    (grind (arith, common_steps, append_assoc))
