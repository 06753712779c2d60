use Rattle.std.proofs.Common.{length, ap, arith, length-drop}
use Rattle.wt_rows.proofs.GroupSteps.{group_added}
use Rattle.wt_rows.proofs.group.groups.Goals as goal

pub loop-at-preserved : goal.loop-at-preserved
loop-at-preserved c = record {
  within = omega (arith, c.group_len.ensures.within, ap length c.rest_of.ensures, length-drop c.loop-at.at c.args.rows.now, c.loop-at-test.true);
  rest = group_added c.args.rows.now c.rest_of.result.now c.loop-at.out c.push.new.self c.loop-at.at c.group_len.result _ c.loop-at-test.true
      c.rest_of.ensures c.group_len.ensures.value c.in_ok-push.ensures.ok c.loop-at.invariant.rest;
}
