use Rattle.std.proofs.Common.{◌≡◌, drop}
use Rattle.wt_tree.specs.View.{views}
use Rattle.wt_slices.specs.ListSlices.{from_kept}
use Rattle.wt_slices.proofs.list.first_kept.Given as goal

abbrev pub invariant-loop-at : goal.invariant-loop-at
invariant-loop-at l = from_kept (views l.nodes) ≡ from_kept (views (drop l.at l.nodes))
