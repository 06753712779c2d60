use Rattle.std.proofs.Common.{◌≡◌, ◌++◌, drop, Bool}
use Rattle.wt_tree.specs.Tree.{Tree}
use Rattle.wt_tree.specs.View.{views}
use Rattle.wt_original.specs.Page.{TellsSame}
use Rattle.wt_slices.specs.ListSlices.{new_before}
use Rattle.wt_splice.specs.Views.{changes_view}
use Rattle.wt_slices.proofs.list.push_all_new_before.Given as goal

abbrev pub invariant-loop-node : goal.invariant-loop-node
invariant-loop-node l =
    (same : Tree → Tree → Bool) → TellsSame same → changes_view l.found.items ++ new_before same l.sign l.place (views (drop l.node-index l.nodes))
    ≡ changes_view l.fn.found.items ++ new_before same l.sign l.place (views l.nodes)
