use Rattle.std.proofs.Common.{◌≡◌, drop}
use Rattle.wt_tree.specs.View.{views}
use Rattle.wt_sections.specs.Sections.{last_ranges}
use Rattle.wt_sections.proofs.section.last_ranges.Given as goal

abbrev pub invariant-loop-node : goal.invariant-loop-node
invariant-loop-node l = last_ranges l.last (views (drop l.node-index l.nodes)) ≡ last_ranges l.initial.last (views l.nodes)
