use Rattle.std.proofs.Common.{◌≡◌, ◌+◌, drop}
use Rattle.wt_tree.specs.View.{views}
use Rattle.wt_sections.specs.Gathering.{heading_count}
use Rattle.wt_sections.proofs.gather.heading_count.Given as goal

abbrev pub invariant-loop-node : goal.invariant-loop-node
invariant-loop-node l = l.count + heading_count (views (drop l.node-index l.nodes)) ≡ heading_count (views l.nodes)
