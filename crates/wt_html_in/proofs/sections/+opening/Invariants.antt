use Rattle.std.proofs.Common.{◌≡◌}
use Rattle.std.specs.Vec.Iter.{into_iter_items}
use Rattle.wt_tree.specs.Opened.{opened}
use Rattle.wt_recut.specs.Recutting.{appended}
use Rattle.wt_tree.specs.View.{views}
use Rattle.wt_html_in.proofs.sections.+opening.Given as goal

abbrev pub invariant-push_all_opened-loop-node : goal.invariant-push_all_opened-loop-node
invariant-push_all_opened-loop-node l =
    appended (views l.out.items) (opened (views (into_iter_items l.node-iterator)))
    ≡ appended (views l.initial.out.items) (opened (views (into_iter_items l.initial.node-iterator)))
