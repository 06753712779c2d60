use Rattle.std.proofs.Common.{◌≡◌, ◌+◌, drop}
use Rattle.std.specs.Prelude.{nat_lt}
use Rattle.std.specs.List.{prefix_len}
use Rattle.wt_transclusion.proofs.cursor.calls_before.Given as goal

abbrev pub invariant-loop-i : goal.invariant-loop-i
invariant-loop-i l = l.i + prefix_len (λ x. nat_lt x.at.start l.to) (drop l.i l.calls) ≡ prefix_len (λ x. nat_lt x.at.start l.to) l.calls
