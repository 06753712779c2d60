use Rattle.std.proofs.Common.{◌≡◌, drop}
use Rattle.wt_schema.specs.Rows.{values_at}
use Rattle.wt_html_nodes.proofs.row.values_at.Given as goal

abbrev pub invariant-loop-one : goal.invariant-loop-one
invariant-loop-one l = values_at l.order (drop l.one-index l.own) ≡ values_at l.order l.own
