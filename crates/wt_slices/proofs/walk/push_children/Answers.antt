use Rattle.std.proofs.Common.{arith, sym, ap, ◌∙◌, ◌++◌}
use Rattle.wt_tree.specs.View.{view}
use Rattle.wt_checks.specs.View.{indexed}
use Rattle.wt_slices.specs.BodySlices.{child_slices}
use Rattle.wt_splice.specs.Views.{changes_view}
use Rattle.wt_slices.proofs.BodyWalk.{children_views}
use Rattle.wt_slices.proofs.Pushing.{next_pushed, all_pushed}
use Rattle.wt_slices.proofs.walk.push_children.Goals as goal

pub loop-node-preserved : goal.loop-node-preserved
loop-node-preserved c = λ same tells.
    next_pushed (λ n. child_slices same (indexed c.args.index.now) (view n)) (changes_view c.args.found.now.items) (changes_view c.loop-node.found.items)
    (changes_view c.push_child.new.found.items) c.args.nodes.now c.loop-node.node-index c.node-item.result
    (omega arith) c.node-item.is (c.loop-node.invariant same tells) (c.in_ok-push_child.ensures same tells)

pub returns : goal.returns
returns c = λ same tells.
    all_pushed (λ n. child_slices same (indexed c.args.index.now) (view n)) (changes_view c.args.found.now.items) (changes_view c.loop-node.found.items)
    c.args.nodes.now c.loop-node.node-index (omega arith) (c.loop-node.invariant same tells)
    ∙ ap (λ cs. changes_view c.args.found.now.items ++ cs) (sym (children_views same (indexed c.args.index.now) c.args.nodes.now))
