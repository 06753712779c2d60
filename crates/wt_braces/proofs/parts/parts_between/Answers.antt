use Rattle.std.proofs.Common.{map, false}
use Rattle.wt_span.specs.Braces.{parts_between}
use Rattle.wt_braces.specs.Views.{sign_at}
use Rattle.wt_braces.proofs.PartSteps.{reads_next}
use Rattle.wt_braces.proofs.parts.parts_between.Goals as goal

pub loop-sign-preserved : goal.loop-sign-preserved
loop-sign-preserved c =
    reads_next c.args.signs.now c.loop-sign.sign-index c.sign-item.result c.loop-sign.parts c.read.new.self c.args.to
    (parts_between false c.args.from c.args.to (map sign_at c.args.signs.now)) c.loop-sign-test.true c.sign-item.is
    c.loop-sign.invariant c.in_ok-read.ensures
