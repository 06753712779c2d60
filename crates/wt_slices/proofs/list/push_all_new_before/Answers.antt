use Rattle.wt_splice.specs.Views.{changes_view}
use Rattle.wt_slices.proofs.ListWalk.{all_new, no_more_new, one_new}
use Rattle.wt_slices.proofs.list.push_all_new_before.Goals as goal

pub returns-then-is_kept_child : goal.returns-then-is_kept_child
returns-then-is_kept_child c = λ same tells.
    no_more_new same c.args.sign c.args.place c.args.nodes.now c.loop-node.node-index c.node-item.result c.is_kept_child.result
    (changes_view c.args.found.now.items) (changes_view c.loop-node.found.items) (c.loop-node.invariant same tells) c.loop-node-test.true c.node-item.is
    c.is_kept_child.ensures c.if-is_kept_child.true

pub loop-node-preserved : goal.loop-node-preserved
loop-node-preserved c = λ same tells.
    one_new same c.args.sign c.args.place c.args.nodes.now c.loop-node.node-index c.node-item.result c.is_kept_child.result
    (changes_view c.args.found.now.items) (changes_view c.loop-node.found.items) (changes_view c.push_new_before.new.found.items)
    (c.loop-node.invariant same tells) c.loop-node-test.true c.node-item.is c.is_kept_child.ensures c.if-is_kept_child.false
    (c.in_ok-push_new_before.ensures same tells)

pub returns : goal.returns
returns c = λ same tells.
    all_new same c.args.sign c.args.place c.args.nodes.now c.loop-node.node-index (changes_view c.args.found.now.items) (changes_view c.loop-node.found.items)
    (c.loop-node.invariant same tells) c.loop-node-test.false
