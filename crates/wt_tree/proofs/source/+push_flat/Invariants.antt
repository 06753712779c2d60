use Rattle.std.proofs.Common.{◌≡◌, ◌++◌, take}
use Rattle.std.specs.List.{flat_map}
use Rattle.wt_tree.specs.Source.{flat}
use Rattle.wt_tree.specs.View.{texts_of, view}
use Rattle.wt_tree.specs.declared.node.Node.{out-Node}
use Rattle.wt_tree.proofs.source.+push_flat.Given as goal

abbrev pub invariant-loop-child : goal.invariant-loop-child
invariant-loop-child l = l.out ≡ l.fn.out ++ texts_of (out-Node l.node).source.opening ++ flat_map (λ n. flat (view n)) (take l.child-index l.child-items)
