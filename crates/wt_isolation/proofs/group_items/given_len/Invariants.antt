use Rattle.std.proofs.Common.{◌≡◌, ◌+◌, Some, drop}
use Rattle.std.specs.List.{prefix_len}
use Rattle.wt_span.specs.Items.{call_of_origin}
use Rattle.wt_span.specs.Origins.{same_call}
use Rattle.wt_isolation.proofs.group_items.given_len.Given as goal

abbrev pub invariant-loop-i : goal.invariant-loop-i
invariant-loop-i l =
    l.i + prefix_len (λ p. same_call (Some l.call) (call_of_origin p.origin)) (drop l.i l.pieces)
    ≡ prefix_len (λ p. same_call (Some l.call) (call_of_origin p.origin)) l.pieces
