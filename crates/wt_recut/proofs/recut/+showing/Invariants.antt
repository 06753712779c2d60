use Rattle.std.proofs.Common.{◌≡◌, drop}
use Rattle.wt_tree.specs.View.{views}
use Rattle.wt_recut.specs.Recut.{any_shows_block}
use Rattle.wt_recut.proofs.recut.+showing.Given as goal

abbrev pub invariant-any_shows_block-loop-node : goal.invariant-any_shows_block-loop-node
invariant-any_shows_block-loop-node l = any_shows_block (views (drop l.node-index l.nodes)) ≡ any_shows_block (views l.nodes)
