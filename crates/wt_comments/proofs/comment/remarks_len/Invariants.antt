use Rattle.std.proofs.Common.{◌≡◌, ◌≤◌, ◌+◌, ◌-◌, drop, length}
use Rattle.wt_span.specs.Comments.{remarks_len}
use Rattle.wt_comments.proofs.comment.remarks_len.Given as goal

abbrev pub invariant-loop-at : goal.invariant-loop-at
invariant-loop-at l = record { within : l.at ≤ length l.bytes; rest : l.at + remarks_len 0 (drop l.at l.bytes) ≡ remarks_len 0 l.bytes }

abbrev pub decreases-loop-at : goal.decreases-loop-at
decreases-loop-at l = length l.bytes - l.at
