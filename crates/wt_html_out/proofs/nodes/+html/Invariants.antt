use Rattle.std.proofs.Common.{◌≡◌, ◌+◌, ◌≤◌, ◌++◌, drop, length}
use Rattle.wt_schema.specs.Html.{html_of_all, groups_of_all}
use Rattle.wt_tree.specs.View.{views}
use Rattle.wt_html_out.proofs.nodes.+html.Given as goal

abbrev pub invariant-push_all-loop-node : goal.invariant-push_all-loop-node
invariant-push_all-loop-node l =
    (l.out.items ++ html_of_all l.behind (views (drop l.node-index l.nodes)) ≡ l.initial.out.items ++ html_of_all l.before (views l.nodes))
    × (l.behind + groups_of_all (views (drop l.node-index l.nodes)) ≡ l.before + groups_of_all (views l.nodes)) × (l.behind ≤ length l.out.items)
