use Rattle.wt_checks.specs.Tokens.{read_signs}
use Rattle.wt_checks.proofs.Elements.{read_turn}
use Rattle.wt_checks.proofs.read.+read.Goals as goal

pub push_all-loop-node-preserved : goal.push_all-loop-node-preserved
push_all-loop-node-preserved t c =
    read_turn (read_signs c.args.out.now.items) (read_signs c.loop-node.out.items)
    (read_signs c.push.new.out.items) c.args.nodes.now c.loop-node.node-index c.node-item.result c.loop-node-test.true
    c.node-item.is c.loop-node.invariant
    c.in_ok-push.ensures
