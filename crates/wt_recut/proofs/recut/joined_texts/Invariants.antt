use Rattle.std.proofs.Common.{◌≡◌}
use Rattle.std.specs.Vec.Iter.{into_iter_items}
use Rattle.wt_tree.specs.View.{views}
use Rattle.wt_recut.proofs.Recuts.{pushed_all}
use Rattle.wt_recut.proofs.recut.joined_texts.Given as goal

abbrev pub invariant-loop-node : goal.invariant-loop-node
invariant-loop-node l = pushed_all (views l.joined.items) (views (into_iter_items l.node-iterator))
    ≡ pushed_all (views l.initial.joined.items) (views (into_iter_items l.initial.node-iterator))
