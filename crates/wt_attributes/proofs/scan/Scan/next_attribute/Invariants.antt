use Rattle.std.proofs.Common.{◌≡◌, length}
use Rattle.wt_attributes.specs.Views.{left}
use Rattle.wt_attributes.proofs.scan.Scan.next_attribute.Given as goal

abbrev pub invariant-loop-scan : goal.invariant-loop-scan
invariant-loop-scan l = left l.scan ≡ left l.initial.self

abbrev pub decreases-loop-scan : goal.decreases-loop-scan
decreases-loop-scan l = length l.scan.rest.now
