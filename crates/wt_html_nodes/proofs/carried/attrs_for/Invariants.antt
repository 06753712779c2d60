use Rattle.std.proofs.Common.{◌≡◌, ◌++◌, drop}
use Rattle.wt_tree.specs.View.{attrs_of}
use Rattle.wt_html_elements.specs.Built.{pairs}
use Rattle.wt_schema.specs.Rows.{own_of}
use Rattle.wt_html_nodes.proofs.carried.attrs_for.Given as goal

abbrev pub invariant-loop-own : goal.invariant-loop-own
invariant-loop-own l = attrs_of l.attrs ++ own_of (drop l.own-index l.own-items) (pairs l.attributes) ≡ own_of l.own-items (pairs l.attributes)
