use Rattle.std.proofs.Common.{◌≡◌, ◌++◌, filter, take}
use Rattle.wt_checks.specs.View.{has_number}
use Rattle.wt_checks.proofs.index.push_numbered.Given as goal

abbrev pub invariant-loop-visit : goal.invariant-loop-visit
invariant-loop-visit l = l.out.items ≡ l.fn.out.items ++ filter has_number (take l.visit-index l.visits)
