use Rattle.std.proofs.Common.{refl}
use Rattle.wt_recut.specs.Recutting.{appended}
use Rattle.wt_tree.specs.View.{views}
use Rattle.wt_difference.specs.Views.{child_views}
use Rattle.wt_difference.proofs.HeldChildren.{all_turn, all_end}
use Rattle.wt_difference.proofs.insides.push_all.Goals as goal

pub loop-node-preserved : goal.loop-node-preserved
loop-node-preserved c =
    all_turn c.loop-node.out.items c.push.new.self.items c.args.nodes.now c.loop-node.node-index c.node-item.result _
    (appended (child_views c.args.out.now.items) (views c.args.nodes.now))
    c.in_ok-push.ensures.items refl c.loop-node-test.true c.node-item.is c.loop-node.invariant

pub returns : goal.returns
returns c =
    all_end c.loop-node.out.items c.args.nodes.now c.loop-node.node-index (appended (child_views c.args.out.now.items) (views c.args.nodes.now))
    c.loop-node-test.false c.loop-node.invariant
