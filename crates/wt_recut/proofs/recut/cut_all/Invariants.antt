use Rattle.std.specs.Vec.Iter.{into_iter_items}
use Rattle.wt_tree.specs.View.{views}
use Rattle.wt_recut.proofs.Recuts.{IsCutting}
use Rattle.wt_recut.proofs.recut.cut_all.Given as goal

abbrev pub invariant-loop-node : goal.invariant-loop-node
invariant-loop-node l = IsCutting (views (into_iter_items l.initial.node-iterator)) l.behind (views l.done.items)
    (views (into_iter_items l.node-iterator)) l.flags.items
