use Rattle.std.proofs.Common.{◌≡◌, ◌++◌, drop}
use Rattle.wt_tree.specs.View.{views}
use Rattle.wt_html_out.specs.Shown.{shown_html_of_all}
use Rattle.wt_html_out.proofs.shown.+shown.Given as goal

abbrev pub invariant-push_shown_all-loop-node : goal.invariant-push_shown_all-loop-node
invariant-push_shown_all-loop-node l =
    l.out.items ++ shown_html_of_all (views (drop l.node-index l.nodes)) ≡ l.initial.out.items ++ shown_html_of_all (views l.nodes)
