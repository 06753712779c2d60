use Rattle.std.proofs.Common.{sym, ◌∙◌}
use Rattle.wt_attributes.specs.Views.{named}
use Rattle.wt_attributes.proofs.Readings.{missed_here, found_here}
use Rattle.wt_attributes.proofs.scan.Scan.next_attribute.Goals as goal

pub returns-in-Some : goal.returns-in-Some
returns-in-Some c =
    let s = c.loop-scan.scan in
    sym c.loop-scan.invariant ∙ found_here s.fresh s.rest.now (named c.in-Some.attribute) c.in-Some.rest.now (sym c.in-Some.ensures)

pub loop-scan-preserved : goal.loop-scan-preserved
loop-scan-preserved c =
    let s = c.loop-scan.scan in
    c.past_blank-scan.ensures.value ∙ missed_here s.fresh s.rest.now (sym c.in_default.ensures) ∙ c.loop-scan.invariant
