use Rattle.std.proofs.Common.{length}
use Rattle.wt_inline.specs.View.{item_trees}
use Rattle.wt_runs.specs.Children.{children_at}
use Rattle.wt_annotated.specs.Pieces.{outer_calls}
use Rattle.wt_ranges.proofs.ChildWalks.{Read}
use Rattle.wt_ranges.proofs.children.children.Given as goal

abbrev pub invariant-loop-tree : goal.invariant-loop-tree
invariant-loop-tree l = Read (outer_calls l.calls) l.children l.last l.at l.followed.items
    (children_at (outer_calls l.calls) l.fn.before l.fn.byte l.fn.after (item_trees l.fn.trees))

abbrev pub decreases-loop-tree : goal.decreases-loop-tree
decreases-loop-tree l = length l.followed.items
