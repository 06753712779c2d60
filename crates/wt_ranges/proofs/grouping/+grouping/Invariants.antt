use Rattle.std.proofs.Common.{◌+◌}
use Rattle.std.specs.Vec.Iter.{into_iter_items}
use Rattle.wt_inline.specs.View.{item_tree}
use Rattle.wt_annotated.specs.Pieces.{outer_calls}
use Rattle.wt_annotated.proofs.TreeWalks.{nodes_in}
use Rattle.wt_ranges.proofs.Finishing.{RunsSoFar}
use Rattle.wt_ranges.proofs.Groupings.{run_size, runs_size}
use Rattle.wt_ranges.proofs.grouping.+grouping.Given as goal

abbrev pub invariant-run_nodes-loop-run : goal.invariant-run_nodes-loop-run
invariant-run_nodes-loop-run l = RunsSoFar (outer_calls l.calls) l.nodes l.behind (into_iter_items l.run-iterator) l.fn.next l.fn.runs

abbrev pub decreases-run_nodes : goal.decreases-run_nodes
decreases-run_nodes l = 2 + runs_size l.runs

abbrev pub decreases-run_node : goal.decreases-run_node
decreases-run_node l = 1 + run_size l.run

abbrev pub decreases-kept_node : goal.decreases-kept_node
decreases-kept_node l = nodes_in (item_tree l.child.tree)
