use Rattle.std.proofs.Common.{◌≡◌, ◌++◌, drop}
use Rattle.wt_html_elements.specs.Built.{pairs}
use Rattle.wt_schema.specs.Groups.{own_pairs}
use Rattle.wt_html_nodes.proofs.own.own_attributes.Given as goal

abbrev pub invariant-loop-attribute : goal.invariant-loop-attribute
invariant-loop-attribute l = pairs l.own.items ++ own_pairs (pairs (drop l.attribute-index l.attributes)) ≡ own_pairs (pairs l.attributes)
