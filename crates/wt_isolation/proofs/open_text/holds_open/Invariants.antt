use Rattle.std.proofs.Common.{◌≡◌, length}
use Rattle.wt_isolation.specs.OpenTexts.{holds_open}
use Rattle.wt_isolation.proofs.open_text.holds_open.Given as goal

-- what is left of the text decides
abbrev pub invariant-loop-byte : goal.invariant-loop-byte
invariant-loop-byte l = holds_open l.text ≡ holds_open l.rest

abbrev pub decreases-loop-byte : goal.decreases-loop-byte
decreases-loop-byte l = length l.rest
