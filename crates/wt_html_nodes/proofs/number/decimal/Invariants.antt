use Rattle.std.proofs.Common.{◌≡◌, drop}
use Rattle.wt_schema.specs.Attributes.{decimal_from}
use Rattle.wt_html_nodes.proofs.number.decimal.Given as goal

abbrev pub invariant-loop-digit : goal.invariant-loop-digit
invariant-loop-digit l = decimal_from l.number (drop l.digit-index l.digits) ≡ decimal_from 0 l.digits
