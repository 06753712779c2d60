use Rattle.std.proofs.Common.{arith, sym, ◌∙◌}
use Rattle.wt_checks.proofs.Entries.{compared_from_here, compared_from_end, not_compared}
use Rattle.wt_checks.proofs.unmarked.compared_from.Goals as goal

pub returns-then-is_seen : goal.returns-then-is_seen
returns-then-is_seen c =
    compared_from_here c.args.nodes.now c.args.from c.loop-at.at c.index-nodes-at.result c.loop-at-test.true c.index-nodes-at.is
    (sym c.is_seen.ensures ∙ c.if-is_seen.true) c.loop-at.invariant.later c.loop-at.invariant.same

pub loop-at-preserved : goal.loop-at-preserved
loop-at-preserved c = record {
  later = omega arith;
  same = c.loop-at.invariant.same ∙ not_compared c.args.nodes.now c.loop-at.at c.index-nodes-at.result c.loop-at-test.true
      c.index-nodes-at.is (sym c.is_seen.ensures ∙ c.if-is_seen.false);
}

pub returns : goal.returns
returns c = compared_from_end c.args.nodes.now c.args.from c.loop-at.at c.loop-at-test.false (omega arith) c.loop-at.invariant.later c.loop-at.invariant.same
