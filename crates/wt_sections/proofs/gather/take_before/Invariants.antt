use Rattle.std.proofs.Common.{length}
use Rattle.wt_tree.specs.View.{views}
use Rattle.wt_sections.specs.Gathering.{parts_view}
use Rattle.wt_sections.proofs.Gathers.{IsTaking}
use Rattle.wt_sections.proofs.gather.take_before.Given as goal

abbrev pub invariant-loop-part : goal.invariant-loop-part
invariant-loop-part l = IsTaking l.limit (views l.nodes.items) (parts_view l.parts.items) (views l.initial.nodes.items) (parts_view l.initial.parts.items)

abbrev pub decreases-loop-part : goal.decreases-loop-part
decreases-loop-part l = length l.parts.items
