use Rattle.wt_tree.specs.Opened.{opened}
use Rattle.wt_recut.specs.Recutting.{appended}
use Rattle.wt_tree.specs.View.{views}
use Rattle.wt_difference.specs.Views.{child_views}
use Rattle.wt_difference.proofs.HeldChildren.{opened_turn, opened_end, opened_node}
use Rattle.wt_difference.proofs.insides.+opening.Goals as goal

pub push_opened-returns : goal.push_opened-returns
push_opened-returns t c =
    opened_node c.args.out.now.items c.push.new.self.items (record { node = c.args.node }) c.is_section.result
    c.in_ok-push.ensures.items c.is_section.ensures c.if-is_section.false

pub push_all_opened-loop-node-preserved : goal.push_all_opened-loop-node-preserved
push_all_opened-loop-node-preserved t c =
    opened_turn c.loop-node.out.items c.push_opened.new.out.items c.args.nodes.now c.loop-node.node-index c.node-item.result
    (appended (child_views c.args.out.now.items) (opened (views c.args.nodes.now)))
    c.loop-node-test.true c.node-item.is c.in_ok-push_opened.ensures c.loop-node.invariant

pub push_all_opened-returns : goal.push_all_opened-returns
push_all_opened-returns t c =
    opened_end c.loop-node.out.items c.args.nodes.now c.loop-node.node-index
    (appended (child_views c.args.out.now.items) (opened (views c.args.nodes.now))) c.loop-node-test.false c.loop-node.invariant
