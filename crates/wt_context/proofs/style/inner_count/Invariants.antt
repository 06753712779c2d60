use Rattle.std.proofs.Common.{◌≡◌, ◌+◌, drop}
use Rattle.std.specs.List.{prefix_len}
use Rattle.wt_quotes.specs.Forest.{lies_in}
use Rattle.wt_context.proofs.style.inner_count.Given as goal

abbrev pub invariant-loop-i : goal.invariant-loop-i
invariant-loop-i l = l.i + prefix_len (λ u. lies_in u l.style) (drop l.i l.later) ≡ prefix_len (λ u. lies_in u l.style) l.later
