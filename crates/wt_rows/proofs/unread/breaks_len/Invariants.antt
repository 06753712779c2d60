use Rattle.std.proofs.Common.{◌≡◌, ◌+◌, drop}
use Rattle.std.specs.List.{prefix_len}
use Rattle.wt_span.specs.Bytes.{is_break}
use Rattle.wt_rows.proofs.unread.breaks_len.Given as goal

abbrev pub invariant-loop-i : goal.invariant-loop-i
invariant-loop-i l = l.i + prefix_len is_break (drop l.i l.bytes) ≡ prefix_len is_break l.bytes
