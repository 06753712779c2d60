use Rattle.std.proofs.Common.{◌≡◌, ◌++◌, drop, Bool}
use Rattle.wt_tree.specs.Tree.{Tree}
use Rattle.wt_original.specs.Page.{TellsSame}
use Rattle.wt_checks.specs.View.{indexed}
use Rattle.wt_slices.specs.ListSlices.{item_slices}
use Rattle.wt_splice.specs.Views.{changes_view}
use Rattle.wt_slices.specs.Views.{steps_view}
use Rattle.wt_slices.proofs.list.push_items.Given as goal

abbrev pub invariant-loop-step : goal.invariant-loop-step
invariant-loop-step l =
    (same : Tree → Tree → Bool) → TellsSame same
    → changes_view l.found.items ++ item_slices same (indexed l.index) l.sign l.at (steps_view (drop l.step-index l.steps))
    ≡ changes_view l.fn.found.items ++ item_slices same (indexed l.index) l.sign l.start (steps_view l.steps)
