use Rattle.std.proofs.Common.{◌≡◌, drop}
use Rattle.wt_html_elements.specs.Built.{pairs}
use Rattle.wt_schema.specs.Attributes.{value_of}
use Rattle.wt_html_nodes.proofs.attributes.value_of.Given as goal

abbrev pub invariant-loop-attribute : goal.invariant-loop-attribute
invariant-loop-attribute l = value_of l.name (pairs (drop l.attribute-index l.attributes)) ≡ value_of l.name (pairs l.attributes)
