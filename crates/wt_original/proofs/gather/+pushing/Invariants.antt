use Rattle.std.proofs.Common.{◌≡◌, ◌++◌, take}
use Rattle.std.specs.List.{flat_map}
use Rattle.wt_tree.specs.View.{view}
use Rattle.wt_original.specs.Kept.{items}
use Rattle.wt_original.specs.Gathered.{items_seen}
use Rattle.wt_original.proofs.gather.+pushing.Given as goal

abbrev pub invariant-push_items_of_all-loop-node : goal.invariant-push_items_of_all-loop-node
invariant-push_items_of_all-loop-node l = items_seen l.out.items ≡ items_seen l.initial.out.items ++ flat_map (λ n. items (view n)) (take l.node-index l.nodes)
