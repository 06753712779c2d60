use Rattle.std.proofs.Common.{◌≡◌, ◌++◌, take}
use Rattle.std.specs.List.{flat_map}
use Rattle.wt_tree.specs.View.{view}
use Rattle.wt_tree.specs.Stream.{signs}
use Rattle.wt_original.specs.PageViews.{marks_of}
use Rattle.wt_original.proofs.same.+show.Given as goal

abbrev pub invariant-show_all-loop-node : goal.invariant-show_all-loop-node
invariant-show_all-loop-node l = marks_of l.out.items ≡ marks_of l.initial.out.items ++ flat_map (λ n. signs (view n)) (take l.node-index l.nodes)
