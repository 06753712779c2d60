use Rattle.std.proofs.Common.{arith}
use Rattle.wt_rows.proofs.Straying.{stray_goes, stray_stops}
use Rattle.wt_rows.proofs.delimiter.stray_len.Goals as goal

pub returns-then-not-is_blank-clause-value : goal.returns-then-not-is_blank-clause-value
returns-then-not-is_blank-clause-value c =
    stray_stops c.args.pieces.now c.args.rows.now c.loop-end.end _ c.is_blank.result c.loop-end-test.true c.loop-end.invariant.within c.is_blank.ensures
    c.if-not-is_blank.true c.loop-end.invariant.rest

pub loop-end-preserved : goal.loop-end-preserved
loop-end-preserved c = record {
  within = omega (arith, c.loop-end.invariant.within);
  rest = stray_goes c.args.pieces.now c.args.rows.now c.loop-end.end _ c.is_blank.result c.loop-end-test.true c.loop-end.invariant.within c.is_blank.ensures
      c.if-not-is_blank.false c.loop-end.invariant.rest;
}
