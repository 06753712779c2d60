use Rattle.std.proofs.Common.{arith}
use Rattle.wt_visible.proofs.Within.{within_decided}
use Rattle.wt_visible.proofs.kept_marks.is_within.Goals as goal

pub returns : goal.returns
returns c =
    within_decided c.args.kept.now c.args.there.now c.loop-source.source-index c.loop-source.found (omega (arith, c.loop-source-test.false))
    c.loop-source.invariant.within c.loop-source.invariant.same
