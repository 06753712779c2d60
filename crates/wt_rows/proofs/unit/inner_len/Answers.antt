use Rattle.std.proofs.Common.{refl, arith}
use Rattle.wt_rows.proofs.UnitSteps.{depth_ends, depth_goes, depth_all}
use Rattle.wt_rows.proofs.unit.inner_len.Goals as goal

pub returns-in_default-clause-value : goal.returns-in_default-clause-value
returns-in_default-clause-value c =
    depth_ends c.loop-i.i c.loop-i.depth c.args.rows.now _ _ c.loop-i-test.true refl c.in_default.ensures.next c.loop-i.invariant.rest

pub loop-i-preserved : goal.loop-i-preserved
loop-i-preserved c = record {
  few = omega (arith, c.in-Some.ensures.within, c.loop-i.invariant.few);
  rest = depth_goes c.loop-i.i c.loop-i.depth c.in-Some.next c.args.rows.now _ _ c.loop-i-test.true refl c.in-Some.ensures.next c.loop-i.invariant.rest;
}

pub returns-clause-value : goal.returns-clause-value
returns-clause-value c = depth_all c.loop-i.i c.loop-i.depth c.args.rows.now c.loop-i-test.false c.loop-i.auto.i-end c.loop-i.invariant.rest
