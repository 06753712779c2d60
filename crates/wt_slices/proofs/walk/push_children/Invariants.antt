use Rattle.std.proofs.Common.{◌≡◌, ◌++◌, take, Bool}
use Rattle.std.specs.List.{flat_map}
use Rattle.wt_tree.specs.Tree.{Tree}
use Rattle.wt_tree.specs.View.{view}
use Rattle.wt_original.specs.Page.{TellsSame}
use Rattle.wt_checks.specs.View.{indexed}
use Rattle.wt_slices.specs.BodySlices.{child_slices}
use Rattle.wt_splice.specs.Views.{changes_view}
use Rattle.wt_slices.proofs.walk.push_children.Given as goal

abbrev pub invariant-loop-node : goal.invariant-loop-node
invariant-loop-node l =
    (same : Tree → Tree → Bool) → TellsSame same
    → changes_view l.found.items ≡ changes_view l.fn.found.items ++ flat_map (λ n. child_slices same (indexed l.index) (view n)) (take l.node-index l.nodes)
