use Rattle.std.proofs.Common.{◌≡◌, ◌++◌, take, string_bytes}
use Rattle.std.specs.List.{flat_map}
use Rattle.wt_tree.specs.View.{view}
use Rattle.wt_original.specs.Kept.{shown}
use Rattle.wt_original.proofs.gather.+showing.Given as goal

abbrev pub invariant-push_shown_in-loop-node : goal.invariant-push_shown_in-loop-node
invariant-push_shown_in-loop-node l = string_bytes l.out ≡ string_bytes l.initial.out ++ flat_map (λ n. shown (view n)) (take l.node-index l.nodes)
