use Rattle.std.proofs.Common.{◌≡◌, [], drop}
use Rattle.wt_tree.specs.View.{views}
use Rattle.wt_isolation.specs.OpenTexts.{has_open_text}
use Rattle.wt_isolation.proofs.open_text.+texts.Given as goal

-- what is left to look through decides, behind the text so far
abbrev pub invariant-has_open_text-loop-node : goal.invariant-has_open_text-loop-node
invariant-has_open_text-loop-node l = has_open_text [] (views l.nodes) ≡ has_open_text l.text.items (views (drop l.node-index l.nodes))
