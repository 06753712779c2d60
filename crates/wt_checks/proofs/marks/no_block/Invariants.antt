use Rattle.std.proofs.Common.{◌≡◌, drop}
use Rattle.wt_tree.specs.View.{views}
use Rattle.wt_checks.specs.Marks.{no_block}
use Rattle.wt_checks.proofs.marks.no_block.Given as goal

abbrev pub invariant-loop-node : goal.invariant-loop-node
invariant-loop-node l = no_block (views l.nodes) ≡ no_block (views (drop l.node-index l.nodes))
