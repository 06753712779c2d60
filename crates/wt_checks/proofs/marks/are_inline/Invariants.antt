use Rattle.std.proofs.Common.{◌≡◌, drop}
use Rattle.wt_tree.specs.View.{views}
use Rattle.wt_checks.specs.Marks.{are_inline}
use Rattle.wt_checks.proofs.marks.are_inline.Given as goal

abbrev pub invariant-loop-node : goal.invariant-loop-node
invariant-loop-node l = are_inline (views l.nodes) ≡ are_inline (views (drop l.node-index l.nodes))
