use Rattle.std.proofs.Common.{◌≡◌, ◌+◌, drop}
use Rattle.std.specs.List.{prefix_len}
use Rattle.wt_context.specs.Loosened.{is_alike}
use Rattle.wt_context.proofs.loose.alike_len.Given as goal

abbrev pub invariant-loop-i : goal.invariant-loop-i
invariant-loop-i l = l.i + prefix_len (is_alike l.quotes) (drop l.i l.bytes) ≡ prefix_len (is_alike l.quotes) l.bytes
