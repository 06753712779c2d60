use Rattle.std.proofs.Common.{◌≡◌, ◌++◌, drop, Bool}
use Rattle.wt_tree.specs.Tree.{Tree}
use Rattle.wt_original.specs.Page.{TellsSame}
use Rattle.wt_checks.specs.View.{indexed}
use Rattle.wt_slices.specs.BodySlices.{body_slices, start}
use Rattle.wt_splice.specs.Views.{changes_view}
use Rattle.wt_slices.specs.Views.{parted_ends, steps_view}
use Rattle.wt_slices.proofs.body.push_body.Given as goal

abbrev pub invariant-loop-at : goal.invariant-loop-at
invariant-loop-at l =
    (l.ends.items ≡ parted_ends (steps_view l.steps))
    × ((same : Tree → Tree → Bool) → TellsSame same
    → changes_view l.found.items ++ body_slices same (indexed l.index) l.front (steps_view (drop l.at l.steps))
    ≡ changes_view l.fn.found.items ++ body_slices same (indexed l.index) start (steps_view l.steps))
