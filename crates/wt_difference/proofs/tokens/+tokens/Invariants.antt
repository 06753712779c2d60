use Rattle.std.proofs.Common.{◌≡◌, ◌++◌, take}
use Rattle.std.specs.List.{flat_map}
use Rattle.wt_tree.specs.View.{view}
use Rattle.wt_difference.specs.Tokens.{tokens}
use Rattle.wt_difference.specs.Views.{tokens_view}
use Rattle.wt_difference.proofs.tokens.+tokens.Given as goal

abbrev pub invariant-push_all_tokens-loop-node : goal.invariant-push_all_tokens-loop-node
invariant-push_all_tokens-loop-node l =
    tokens_view l.out.items ≡ tokens_view l.initial.out.items ++ flat_map (λ n. tokens (view n)) (take l.node-index l.nodes)
