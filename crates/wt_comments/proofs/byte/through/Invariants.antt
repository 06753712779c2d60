use Rattle.std.proofs.Common.{◌≡◌, ◌+◌, drop}
use Rattle.wt_span.specs.Bytes.{through}
use Rattle.wt_comments.proofs.byte.through.Given as goal

abbrev pub invariant-loop-at : goal.invariant-loop-at
invariant-loop-at l = l.at + through l.word (drop l.at l.bytes) ≡ through l.word l.bytes
