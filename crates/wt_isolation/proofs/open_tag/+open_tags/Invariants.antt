use Rattle.std.proofs.Common.{◌≡◌, drop}
use Rattle.wt_tree.specs.View.{views}
use Rattle.wt_isolation.specs.OpenTags.{any_ends_open}
use Rattle.wt_isolation.proofs.open_tag.+open_tags.Given as goal

-- what is left to look through decides
abbrev pub invariant-any_ends_open-loop-node : goal.invariant-any_ends_open-loop-node
invariant-any_ends_open-loop-node l = any_ends_open (views l.nodes) ≡ any_ends_open (views (drop l.node-index l.nodes))
