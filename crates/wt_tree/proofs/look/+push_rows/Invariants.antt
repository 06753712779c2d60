use Rattle.std.proofs.Common.{◌≡◌, ◌∷◌, ◌++◌, [], take}
use Rattle.std.specs.List.{flat_map}
use Rattle.wt_tree.specs.Look.{rows}
use Rattle.wt_tree.specs.View.{view}
use Rattle.wt_tree.specs.declared.node.Node.{out-Node}
use Rattle.wt_tree.proofs.look.+push_rows.Given as goal

abbrev pub invariant-loop-child : goal.invariant-loop-child
invariant-loop-child l = l.out ≡ l.fn.out ++ (((out-Node l.n).id, (out-Node l.n).kind, (out-Node l.n).ranges) ∷ [])
    ++ flat_map (λ m. rows (view m)) (take l.child-index l.child-items)
