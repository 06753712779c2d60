use Rattle.std.proofs.Common.{◌≡◌, drop}
use Rattle.wt_lint.specs.Findings.{in_order, put_all}
use Rattle.wt_lint.specs.Found.{each}
use Rattle.wt_lint.proofs.order.in_order.Given as goal

abbrev pub invariant-loop-spot : goal.invariant-loop-spot
invariant-loop-spot l = put_all (each l.set.keys) (each (drop l.spot-index l.found)) ≡ in_order (each l.found)
