use Rattle.std.proofs.Common.{◌≡◌, ◌++◌, map}
use Rattle.std.specs.Vec.Iter.{into_iter_items}
use Rattle.wt_ranges.proofs.group_node.trees_of.Given as goal

abbrev pub invariant-loop-child : goal.invariant-loop-child
invariant-loop-child l = l.trees ++ map (λ c. c.tree) (into_iter_items l.child-iterator) ≡ map (λ c. c.tree) l.fn.children
