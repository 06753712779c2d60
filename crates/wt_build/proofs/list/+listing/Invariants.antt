use Rattle.std.proofs.Common.{◌≡◌, ◌++◌}
use Rattle.std.specs.Vec.Iter.{into_iter_items}
use Rattle.wt_blocks.specs.ListTree.{forest}
use Rattle.wt_blocks.specs.View.{list_trees}
use Rattle.wt_page.specs.Lists.{all_lists}
use Rattle.wt_rows.specs.Views.{rows_view, stretches_view}
use Rattle.wt_build.proofs.list.+listing.Given as goal

abbrev pub invariant-all_lists-loop-node : goal.invariant-all_lists-loop-node
invariant-all_lists-loop-node l =
    stretches_view l.pieces l.out.items ++ all_lists (rows_view l.pieces l.rows) (forest (list_trees (into_iter_items l.node-iterator)))
    ≡ all_lists (rows_view l.pieces l.rows) (forest (list_trees (into_iter_items l.initial.node-iterator)))
