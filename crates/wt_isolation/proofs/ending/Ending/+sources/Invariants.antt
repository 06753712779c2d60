use Rattle.std.proofs.Common.{◌≡◌, ◌++◌, ℕ, List, take}
use Rattle.std.specs.List.{flat_map}
use Rattle.wt_tree.specs.Source.{flat}
use Rattle.wt_tree.specs.View.{view}
use Rattle.wt_isolation.specs.Passes.{ending_of}
use Rattle.wt_isolation.proofs.ending.Ending.+sources.Given as goal

abbrev pub invariant-behind_nodes-loop-node : goal.invariant-behind_nodes-loop-node
invariant-behind_nodes-loop-node l = (text : List ℕ) → l.fn.self ≡ ending_of text
    → l.ending ≡ ending_of (text ++ flat_map (λ n. flat (view n)) (take l.node-index l.nodes))
