use Rattle.std.proofs.Common.{arith}
use Rattle.wt_rows.specs.Building.{made_rows}
use Rattle.wt_rows.proofs.RowsSoFar.{one_end, no_ends}
use Rattle.wt_rows.proofs.rows.PageRows.with_ends.Goals as goal

pub loop-left-preserved : goal.loop-left-preserved
loop-left-preserved c = record {
  made = c.in_ok-made.ensures.made_after;
  rest = one_end (made_rows c.loop-left.made) (made_rows c.in_ok-made.made) _ c.loop-left.left c.loop-left-test.true c.in_ok-made.ensures.rows
      c.loop-left.invariant.rest;
}

pub returns-clause-rows : goal.returns-clause-rows
returns-clause-rows c =
    no_ends (made_rows c.loop-left.made) _ c.loop-left.left (omega arith) c.loop-left.invariant.rest
