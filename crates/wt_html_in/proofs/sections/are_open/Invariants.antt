use Rattle.std.proofs.Common.{◌≡◌, drop}
use Rattle.wt_tree.specs.Opened.{opened}
use Rattle.wt_tree.specs.View.{views}
use Rattle.wt_html_in.proofs.sections.are_open.Given as goal

abbrev pub invariant-loop-node : goal.invariant-loop-node
invariant-loop-node l = opened (views (drop l.node-index l.nodes)) ≡ views (drop l.node-index l.nodes)
    → opened (views l.nodes) ≡ views l.nodes
