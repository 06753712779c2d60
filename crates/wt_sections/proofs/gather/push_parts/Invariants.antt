use Rattle.std.proofs.Common.{◌≡◌, length}
use Rattle.wt_recut.specs.Recutting.{appended}
use Rattle.wt_tree.specs.View.{views}
use Rattle.wt_sections.specs.Gathering.{parts_view}
use Rattle.wt_sections.specs.Sections.{part_trees}
use Rattle.wt_sections.proofs.gather.push_parts.Given as goal

abbrev pub invariant-loop-part : goal.invariant-loop-part
invariant-loop-part l = appended (views l.out.items) (part_trees (parts_view l.left.items))
    ≡ appended (views l.initial.out.items) (part_trees (parts_view l.initial.left.items))

abbrev pub decreases-loop-part : goal.decreases-loop-part
decreases-loop-part l = length l.left.items
