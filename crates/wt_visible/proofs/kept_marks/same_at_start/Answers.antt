use Rattle.std.proofs.Common.{arith}
use Rattle.wt_visible.proofs.Tallies.{same_more}
use Rattle.wt_visible.proofs.kept_marks.same_at_start.Goals as goal

pub loop-at-preserved : goal.loop-at-preserved
loop-at-preserved c = record {
  others = omega (arith, c.if-at-others.false);
  same = same_more c.args.texts.now c.args.others.now c.loop-at.at c.index-texts-at.result c.index-others-at.result c.loop-at-test.true
      (omega (arith, c.if-at-others.false)) c.index-texts-at.is c.index-others-at.is (c.is_same-same.ensures.0 c.if-not-same.false) c.loop-at.invariant.same;
}
