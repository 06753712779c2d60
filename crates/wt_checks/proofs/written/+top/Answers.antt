use Rattle.wt_checks.specs.Tokens.{written_signs}
use Rattle.wt_checks.proofs.Elements.{open_turn, top_turn}
use Rattle.wt_checks.proofs.written.+top.Goals as goal

pub push_all_top-loop-node-preserved : goal.push_all_top-loop-node-preserved
push_all_top-loop-node-preserved t c = record {
  signs =
      top_turn (written_signs c.args.out.now.items) (written_signs c.loop-node.out.items)
      (written_signs c.push_top.new.out.items) c.args.in_span c.loop-node.within c.args.nodes.now c.loop-node.node-index
      c.node-item.result c.loop-node-test.true c.node-item.is
      c.loop-node.invariant.signs c.loop-node.invariant.span c.in_ok-within.ensures.signs;
  span = open_turn c.args.in_span c.loop-node.within c.in_ok-within.within c.args.nodes.now c.loop-node.node-index
      c.node-item.result c.loop-node-test.true c.node-item.is c.loop-node.invariant.span c.in_ok-within.ensures.span;
}
