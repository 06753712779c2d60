use Rattle.std.proofs.Common.{◌≡◌, drop}
use Rattle.wt_tree.specs.View.{views}
use Rattle.wt_content.specs.Content.{any_holds_link}
use Rattle.wt_content.proofs.content.+linking.Given as goal

-- what is left to look through decides
abbrev pub invariant-any_holds_link-loop-node : goal.invariant-any_holds_link-loop-node
invariant-any_holds_link-loop-node l = any_holds_link (views l.nodes) ≡ any_holds_link (views (drop l.node-index l.nodes))
