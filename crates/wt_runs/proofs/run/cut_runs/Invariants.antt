use Rattle.std.specs.Vec.Iter.{into_iter_items}
use Rattle.wt_runs.specs.RunTrees.{CutSoFar}
use Rattle.wt_runs.proofs.run.cut_runs.Given as goal

abbrev pub invariant-loop-child : goal.invariant-loop-child
invariant-loop-child l = CutSoFar l.runs l.run (into_iter_items l.child-iterator) l.fn.children
