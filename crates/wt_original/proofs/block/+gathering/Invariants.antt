use Rattle.std.proofs.Common.{drop}
use Rattle.wt_tree.specs.View.{views}
use Rattle.wt_original.proofs.Gathering.{Remains}
use Rattle.wt_original.proofs.block.+gathering.Given as goal

abbrev pub invariant-gather_all-loop-node : goal.invariant-gather_all-loop-node
invariant-gather_all-loop-node l = Remains l.out l.initial.out (views (drop l.node-index l.nodes)) (views l.nodes)
