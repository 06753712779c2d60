use Rattle.std.proofs.Common.{◌≡◌, ◌++◌, drop}
use Rattle.wt_tree.specs.View.{label_of, views}
use Rattle.wt_tree.specs.declared.node.Node.{out-Node}
use Rattle.wt_html_out.specs.Shown.{after_all, parts}
use Rattle.wt_html_out.proofs.groups.+parts.Given as goal

abbrev pub invariant-push_parts-loop-node : goal.invariant-push_parts-loop-node
invariant-push_parts-loop-node l =
    (l.out.items ++ parts l.at l.number (label_of (out-Node l.group)) (views (drop l.node-index l.nodes))
    ≡ l.initial.out.items ++ parts l.fn.progress l.number (label_of (out-Node l.group)) (views l.nodes))
    × (after_all l.at (views (drop l.node-index l.nodes)) ≡ after_all l.fn.progress (views l.nodes))
