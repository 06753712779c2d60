use Rattle.std.proofs.Common.{◌≡◌, drop}
use Rattle.wt_lint.specs.Findings.{is_plain}
use Rattle.wt_lint.proofs.heading.is_plain.Given as goal

-- what is left to look through decides
abbrev pub invariant-loop-byte : goal.invariant-loop-byte
invariant-loop-byte l = is_plain (drop l.byte-index l.bytes) ≡ is_plain l.bytes
