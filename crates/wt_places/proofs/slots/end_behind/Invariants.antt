use Rattle.std.proofs.Common.{◌≡◌, drop}
use Rattle.wt_tree.specs.View.{views}
use Rattle.wt_places.specs.Places.{end_behind}
use Rattle.wt_places.proofs.slots.end_behind.Given as goal

abbrev pub invariant-loop-node : goal.invariant-loop-node
invariant-loop-node l = end_behind l.end (views (drop l.node-index l.nodes)) ≡ end_behind l.initial.end (views l.nodes)
