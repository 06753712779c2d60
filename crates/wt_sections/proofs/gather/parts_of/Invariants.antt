use Rattle.std.proofs.Common.{length}
use Rattle.wt_tree.specs.View.{views}
use Rattle.wt_sections.specs.Gathering.{parts_view}
use Rattle.wt_sections.proofs.Gathers.{IsGathered}
use Rattle.wt_sections.proofs.gather.parts_of.Given as goal

abbrev pub invariant-loop-node : goal.invariant-loop-node
invariant-loop-node l = IsGathered (views l.left.items) l.number (parts_view l.parts.items) (views l.initial.left.items)

abbrev pub decreases-loop-node : goal.decreases-loop-node
decreases-loop-node l = length l.left.items
