use Rattle.std.proofs.Common.{◌≡◌, drop}
use Rattle.wt_tree.specs.View.{views}
use Rattle.wt_content.specs.Children.{any_kept_child}
use Rattle.wt_content.proofs.children.any_kept_child.Given as goal

-- what is left to look through decides
abbrev pub invariant-loop-node : goal.invariant-loop-node
invariant-loop-node l = any_kept_child l.holder (views l.nodes) ≡ any_kept_child l.holder (views (drop l.node-index l.nodes))
