use Rattle.wt_checks.proofs.Passing.{passed_more, passed_none}
use Rattle.wt_checks.proofs.unmarked.+passing.Goals as goal

pub behind_all_same-returns-in-None : goal.behind_all_same-returns-in-None
behind_all_same-returns-in-None t c =
    passed_none c.args.page.now c.args.edited.now c.args.from c.loop-node.node-index c.loop-node.at c.node-item.result
    c.loop-node-test.true c.node-item.is c.loop-node.invariant.passed c.in-None.ensures

pub behind_all_same-loop-node-preserved : goal.behind_all_same-loop-node-preserved
behind_all_same-loop-node-preserved t c = record {
  within = c.in-Some.ensures.0;
  passed = passed_more c.args.page.now c.args.edited.now c.args.from c.loop-node.node-index c.loop-node.at c.in-Some.behind
      c.node-item.result c.loop-node-test.true c.node-item.is c.loop-node.invariant.passed c.in-Some.ensures;
}
