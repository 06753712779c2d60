use Rattle.std.proofs.Common.{◌≡◌, drop}
use Rattle.wt_content.specs.Content.{has_break}
use Rattle.wt_content.proofs.content.has_break.Given as goal

abbrev pub invariant-loop-byte : goal.invariant-loop-byte
invariant-loop-byte l = has_break (drop l.byte-index l.text) ≡ has_break l.text
