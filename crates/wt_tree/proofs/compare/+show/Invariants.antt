use Rattle.std.proofs.Common.{take}
use Rattle.std.specs.List.{flat_map}
use Rattle.wt_tree.specs.Shown.{Adds}
use Rattle.wt_tree.specs.Stream.{signs}
use Rattle.wt_tree.specs.View.{view}
use Rattle.wt_tree.proofs.compare.+show.Given as goal

abbrev pub invariant-show_all-loop-node : goal.invariant-show_all-loop-node
invariant-show_all-loop-node l = Adds l.initial.shown l.shown (flat_map (λ n. signs (view n)) (take l.node-index l.nodes))
